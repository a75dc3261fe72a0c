-- The lines of a text that mean something, with their numbers.
use Rattle.std.specs.Prelude.{ℕ, suc, Bool, true, false, cond, List, [], ◌∷◌, ◌==◌}
use Rattle.text.specs.Text.{words}

-- what is left of a text: its lines of meaning, each with its number and its words, and at the end the number that one more line would have
pub data Lines : Type 0 where
  end : ℕ → Lines
  line : ℕ → List (List ℕ) → Lines → Lines

-- whether a first word begins a comment
abbrev pub comment : List ℕ → Bool
comment [] = false
comment (b ∷ bs) = b == 35

-- lines without words, and comments, mean nothing
abbrev pub passed_over : List (List ℕ) → Bool
passed_over [] = true
passed_over (w ∷ ws) = comment w

-- the lines of meaning, where the first line has the number n
abbrev pub meaningful : ℕ → List (List ℕ) → Lines
meaningful n [] = end n
meaningful n (l ∷ ls) = cond (passed_over (words l)) (meaningful (suc n) ls) (line n (words l) (meaningful (suc n) ls))
