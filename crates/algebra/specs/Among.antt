-- The numbers of a range that pass a test, rising.
use Rattle.std.specs.Prelude.{ℕ, zero, suc, Bool, true, false, cond, List, [], ◌∷◌, ◌==◌}

-- those of the k numbers from a on that pass
abbrev pub among : (ℕ → Bool) → ℕ → ℕ → List ℕ
among b a zero = []
among b a (suc k) = cond (b a) (a ∷ among b (suc a) k) (among b (suc a) k)

-- whether a number stands in a list
abbrev pub member : ℕ → List ℕ → Bool
member x [] = false
member x (y ∷ ys) = cond (x == y) true (member x ys)
