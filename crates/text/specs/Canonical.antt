-- The canonical text of words: one blank between the words of a line, a line feed after each line.
use Rattle.std.specs.Prelude.{ℕ, List, [], ◌∷◌, ◌++◌}

-- words with a blank between each two
abbrev pub spaced : List (List ℕ) → List ℕ
spaced [] = []
spaced (w ∷ []) = w
spaced (w ∷ v ∷ ws) = w ++ (32 ∷ spaced (v ∷ ws))

-- a line of words
abbrev pub line_of : List (List ℕ) → List ℕ
line_of ws = spaced ws ++ (10 ∷ [])
