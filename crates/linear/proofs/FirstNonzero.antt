-- The first column at which a row is not 0.
use Rattle.std.proofs.Common.{◌≡◌, ℕ, zero, suc, ◌<◌, ◌⊎◌, ap, ◌∙◌, inl, inr, arith}
use native.Mathlib.Decide.{ℕ_discrete}
use Rattle.linear.specs.Field.{FieldOn}

module _ {K : Type 0} (F : FieldOn K) where
  open F.ring.ops use {𝟘}
  open F use {dec}

  -- the first column at which r is not 0
  abbrev pub First : (ℕ → K) → ℕ → Type 0
  First r m = (q : ℕ) × (q < m) × (¬ (r q ≡ 𝟘)) × ((i : ℕ) → i < q → r i ≡ 𝟘)

  pub first : (r : ℕ → K) (m : ℕ) → ((q : ℕ) → q < m → r q ≡ 𝟘) ⊎ First r m
  first r zero = inl (λ q l. absurd (omega arith))
  first r (suc m) = go (first r m) (dec (r m) 𝟘)
    where
      more : ((q : ℕ) → q < m → r q ≡ 𝟘) → r m ≡ 𝟘 → (q : ℕ) → q < suc m → Dec (q ≡ m) → r q ≡ 𝟘
      more h e q l (yes s) = ap r s ∙ e
      more h e q l (no ne) = h q (omega arith)

      go : ((q : ℕ) → q < m → r q ≡ 𝟘) ⊎ First r m → Dec (r m ≡ 𝟘) → ((q : ℕ) → q < suc m → r q ≡ 𝟘) ⊎ First r (suc m)
      go (inl h) (yes e) = inl (λ q l. more h e q l (ℕ_discrete q m))
      go (inl h) (no ne) = inr (m, omega arith, ne, h)
      go (inr t) d = inr (t.0, omega (arith, t.1), t.2, t.3)
