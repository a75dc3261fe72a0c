-- The numbers that the words of a row write.
use Rattle.std.specs.Prelude.{ℕ, zero, suc, List, [], ◌∷◌, Some, None, Option}
use Rattle.text.specs.Numbers.{number}

-- a number before those of a list, if all are there
abbrev pub before : Option ℕ → Option (List ℕ) → Option (List ℕ)
before None ns = None
before (Some n) None = None
before (Some n) (Some ns) = Some (n ∷ ns)

-- the numbers that words write, where there are exactly so many words and each is a number
abbrev pub exactly : ℕ → List (List ℕ) → Option (List ℕ)
exactly zero [] = Some []
exactly zero (w ∷ ws) = None
exactly (suc k) [] = None
exactly (suc k) (w ∷ ws) = before (number w) (exactly k ws)
