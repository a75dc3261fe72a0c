-- The first number of a list that is no code.
use Rattle.std.specs.Prelude.{ℕ, ◌+◌, cond, List, [], ◌∷◌, Some, None, Option, nat_lt}

-- the position, counted from k, of the first number that is not below n
abbrev pub first_outside : ℕ → ℕ → List ℕ → Option ℕ
first_outside n k [] = None
first_outside n k (x ∷ xs) = cond (nat_lt x n) (first_outside n (k + 1) xs) (Some k)
