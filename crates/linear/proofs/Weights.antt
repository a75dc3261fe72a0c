-- Weights that build a table's rows from equations, and what a step makes of them.
use Rattle.std.proofs.Common.{◌≡◌, ℕ, suc, ◌<◌, sym, ap, ◌∙◌, ap₂, arith}
use Rattle.linear.specs.Field.{FieldOn, ops}
use Rattle.algebra.specs.Operations.{sum, dot}
use Rattle.linear.specs.Table.{unit, unit_same, unit_other, Sat}
use Rattle.linear.proofs.Identities.{units, rings, sorts, +-zero, zero-+, zero-*, *-zero, one-*, +_comm, neg-*}
use Rattle.algebra.proofs.Sums.{sum_cong}
use Rattle.linear.proofs.Sums.{sum_zero, sum_add, sum_neg, sum_mul, sum_mul_r, sum_swap, dot_rows}

module _ {K : Type 0} (F : FieldOn K) (n s : ℕ) (W : ℕ → ℕ → K) where
  open F.ring.ops use {𝟘, 𝟙, ◌⊕◌ as ◌+◌, ◌⊗◌ as ◌*◌, ⊖}

  infixl 65 ◌+◌
  infixl 70 ◌*◌
  -- what the weights make of one number from each equation
  abbrev pub weighed : (ℕ → K) → ℕ → K
  weighed f p = sum (ops F) s (λ i. W p i * f i)

  -- the weights of a combination of rows
  pub combined : (c f g : ℕ → K) → ((p : ℕ) → p < n → weighed f p ≡ g p)
      → sum (ops F) s (λ i. sum (ops F) n (λ p. c p * W p i) * f i) ≡ sum (ops F) n (λ p. c p * g p)
  combined c f g h =
      sum_cong (ops F) s _ (λ i. sum (ops F) n (λ p. c p * (W p i * f i)))
      (λ i l. sym (sum_mul_r F.ring n (f i) (λ p. c p * W p i)) ∙ sum_cong (ops F) n _ _ (λ p k. Rattle.linear.proofs.Identities.*-assoc F.ring (c p) (W p i) (f i)))
      ∙ sum_swap F.ring s n (λ i p. c p * (W p i * f i))
      ∙ sum_cong (ops F) n _ _ (λ p k. sum_mul F.ring s (c p) (λ i. W p i * f i) ∙ ap (λ x. c p * x) (h p k))

  -- rows that equations build hold where the equations do
  pub built_sat : (E R : ℕ → ℕ → K) (B val : ℕ → K)
      → ((p : ℕ) → p < n → (j : ℕ) → j < n → weighed (λ i. E i j) p ≡ R p j)
      → ((p : ℕ) → p < n → weighed B p ≡ val p)
      → (v : ℕ → K) → ((i : ℕ) → i < s → dot (ops F) n (E i) v ≡ B i) → Sat F n R val v
  built_sat E R B val rb vb v h p l =
      sum_cong (ops F) n _ _ (λ j k. ap (λ x. x * v j) (sym (rb p l j k)))
      ∙ dot_rows F.ring n s (W p) E v
      ∙ sum_cong (ops F) s _ _ (λ i k. ap (λ x. W p i * x) (h i k))
      ∙ vb p l

  module _ (c : ℕ → K) where
    -- the weights of a residual: 1 for the new equation, and what was taken out
    abbrev pub left : ℕ → K
    left i = unit (ops F) s i + ⊖ (sum (ops F) n (λ p. c p * W p i))

    module _ (fresh : (p : ℕ) → p < n → W p s ≡ 𝟘) (f g : ℕ → K) (h : (p : ℕ) → p < n → weighed f p ≡ g p) where
      pub left_builds : sum (ops F) (suc s) (λ i. left i * f i) ≡ f s + ⊖ (sum (ops F) n (λ p. c p * g p))
      left_builds =
          ap₂ ◌+◌
          (sum_cong (ops F) s _ (λ i. ⊖ (sum (ops F) n (λ p. c p * W p i) * f i))
          (λ i l. ap (λ x. (x + ⊖ (sum (ops F) n (λ p. c p * W p i))) * f i) (unit_other (ops F) s i (omega arith))
          ∙ ap (λ x. x * f i) (zero-+ F.ring (⊖ (sum (ops F) n (λ p. c p * W p i)))) ∙ neg-* F.ring (sum (ops F) n (λ p. c p * W p i)) (f i))
          ∙ sum_neg F.ring s (λ i. sum (ops F) n (λ p. c p * W p i) * f i)
          ∙ ap ⊖ (combined c f g h))
          (ap (λ x. x * f s)
          (ap₂ (λ x y. x + ⊖ y) (unit_same (ops F) s) (sum_zero F.ring n (λ p. c p * W p s) (λ p k. ap (λ x. c p * x) (fresh p k) ∙ *-zero F.ring (c p)))
          ∙ simp units)
          ∙ one-* F.ring (f s))
          ∙ +_comm F.ring _ (f s)

      -- a row plus a multiple of the residual
      pub step_builds : (p : ℕ) → p < n → (k u : K)
          → sum (ops F) (suc s) (λ i. (W p i + k * (u * left i)) * f i) ≡ g p + k * (u * (f s + ⊖ (sum (ops F) n (λ p. c p * g p))))
      step_builds p l k u =
          sum_cong (ops F) (suc s) _ (λ i. W p i * f i + k * (u * (left i * f i))) (λ i _. shape (W p i) k u (left i) (f i))
          ∙ sum_add F.ring (suc s) (λ i. W p i * f i) (λ i. k * (u * (left i * f i)))
          ∙ ap₂ ◌+◌
          (ap₂ ◌+◌ (h p l) (ap (λ x. x * f s) (fresh p l) ∙ zero-* F.ring (f s)) ∙ +-zero F.ring (g p))
          (sum_mul F.ring (suc s) k (λ i. u * (left i * f i))
          ∙ ap (λ x. k * x) (sum_mul F.ring (suc s) u (λ i. left i * f i) ∙ ap (λ x. u * x) left_builds))
        where
          shape : (w k u x y : K) → (w + k * (u * x)) * y ≡ w * y + k * (u * (x * y))
          shape w k u x y = simp rings
