-- The lines of a text and the words of a line, over lists of bytes.
use Rattle.std.specs.Prelude.{ℕ, Bool, false, cond, not, ◌||◌, List, [], ◌∷◌, None, Option, ◌==◌}

-- a space, a tab or a carriage return
unfoldable pub blank : ℕ → Bool
blank b = b == 32 || (b == 9 || b == 13)

-- a byte put before the first of some pieces, or a piece of its own where there is none
abbrev pub joined_to : ℕ → List (List ℕ) → List (List ℕ)
joined_to b [] = (b ∷ []) ∷ []
joined_to b (p ∷ ps) = (b ∷ p) ∷ ps

-- a line ends at a line feed or where the text ends; after a last line feed there is no line
abbrev pub lines : List ℕ → List (List ℕ)
lines [] = []
lines (b ∷ bs) = cond (b == 10) ([] ∷ lines bs) (joined_to b (lines bs))

-- whether a word stands at the very front
abbrev pub worded : List ℕ → Bool
worded [] = false
worded (b ∷ bs) = not (blank b)

-- the longest runs of bytes that are not blank
abbrev pub words : List ℕ → List (List ℕ)
words [] = []
words (b ∷ bs) = cond (blank b) (words bs) (cond (worded bs) (joined_to b (words bs)) ((b ∷ []) ∷ words bs))

-- what just one word says
abbrev pub only : {A : Type 0} → (List ℕ → Option A) → List (List ℕ) → Option A
only f [] = None
only f (w ∷ []) = f w
only f (w ∷ v ∷ ws) = None
