-- Sums of equal terms are equal.
use Rattle.std.proofs.Common.{◌≡◌, ℕ, zero, suc, ◌<◌, refl, ap₂, arith}
use Rattle.algebra.specs.Operations.{Operations, sum}

module _ {K : Type 0} (O : Operations K) where
  pub sum_cong : (n : ℕ) (f g : ℕ → K) → ((i : ℕ) → i < n → f i ≡ g i) → sum O n f ≡ sum O n g
  sum_cong zero f g h = refl
  sum_cong (suc n) f g h = ap₂ O.◌⊕◌ (sum_cong n f g (λ i l. h i (omega arith))) (h n (omega arith))
