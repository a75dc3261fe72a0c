-- The first number that is no code, as `position` finds it.
use Rattle.std.proofs.Common.{◌≡◌, ℕ, ◌+◌, List, [], ◌∷◌, refl, sym, ◌∙◌, arith, nat_le, position}
use Rattle.std.specs.List.{position_from}
use Rattle.std.proofs.lemmas.Iterator.Adapters.{position_from-zero}
use Rattle.algebra.specs.Outside.{first_outside}

from_each : (n k : ℕ) (xs : List ℕ) → first_outside n k xs ≡ position_from (λ x. nat_le n x) k xs
from_each n k [] = refl
from_each n k (x ∷ xs) = grind (arith, from_each n (k + 1) xs)

pub first_outside_is : (n : ℕ) (xs : List ℕ) → first_outside n 0 xs ≡ position (λ x. nat_le n x) xs
first_outside_is n xs = from_each n 0 xs ∙ sym (position_from-zero (λ x. nat_le n x) xs)
