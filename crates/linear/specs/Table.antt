-- Reduced tables of equations: a slot for each of n columns, which holds the row with its pivot there, or zeros.
use Rattle.std.specs.Prelude.{◌≡◌, ℕ, ◌<◌, ◌⊎◌}
use Rattle.std.proofs.Math.Decide.{ℕ_discrete}
use Rattle.algebra.specs.Operations.{Operations, sum, dot}
use Rattle.linear.specs.Field.{FieldOn, ops}

module _ {K : Type 0} (O : Operations K) where
  open O use {𝟘, 𝟙}

  pick : {A : Type 0} → Dec A → K
  pick (yes e) = 𝟙
  pick (no e) = 𝟘

  -- the vector that is 1 at q and 0 elsewhere
  pub unit : ℕ → ℕ → K
  unit q i = pick (ℕ_discrete q i)

  pub unit_same : (q : ℕ) → unit q q ≡ 𝟙
  unfolding unit pick
  unit_same q = go (ℕ_discrete q q)
    where
      go : (d : Dec (q ≡ q)) → pick d ≡ 𝟙
      go (yes e) = λ i. 𝟙
      go (no e) = absurd (e (λ i. q))

  pub unit_other : (q i : ℕ) → ¬ (i ≡ q) → unit q i ≡ 𝟘
  unfolding unit pick
  unit_other q i ne = go (ℕ_discrete q i)
    where
      go : (d : Dec (q ≡ i)) → pick d ≡ 𝟘
      go (yes e) = absurd (ne (mathlib.Core.Path.sym e))
      go (no e) = λ i. 𝟘

module _ {K : Type 0} (F : FieldOn K) where
  open F.ring.ops use {𝟘, 𝟙, ◌⊕◌ as ◌+◌, ◌⊗◌ as ◌*◌, ⊖}

  infixl 65 ◌+◌
  infixl 70 ◌*◌
  -- R p is the row in slot p, and val p its value; a free column has an empty slot
  pub record Free (n : ℕ) (R : ℕ → ℕ → K) (val : ℕ → K) (p : ℕ) : Type 0 where
    pub row : (c : ℕ) → c < n → R p c ≡ 𝟘
    pub value : val p ≡ 𝟘

  pub record Pivot (n : ℕ) (R : ℕ → ℕ → K) (p : ℕ) : Type 0 where
    pub lead : R p p ≡ 𝟙
    pub before : (c : ℕ) → c < p → R p c ≡ 𝟘
    pub others : (q : ℕ) → q < n → ¬ (q ≡ p) → R q p ≡ 𝟘

  abbrev pub Reduced : ℕ → (ℕ → ℕ → K) → (ℕ → K) → Type 0
  Reduced n R val = (p : ℕ) → p < n → Free n R val p ⊎ Pivot n R p

  -- v satisfies each row
  abbrev pub Sat : ℕ → (ℕ → ℕ → K) → (ℕ → K) → (ℕ → K) → Type 0
  Sat n R val v = (p : ℕ) → p < n → dot (ops F) n (R p) v ≡ val p

  -- what is left of coefficients and a value when each row is taken out as often as its column has it
  abbrev pub res : ℕ → (ℕ → ℕ → K) → (ℕ → K) → ℕ → K
  res n R c q = c q + ⊖ (sum (ops F) n (λ p. c p * R p q))

  abbrev pub resv : ℕ → (ℕ → K) → (ℕ → K) → K → K
  resv n val c b = b + ⊖ (sum (ops F) n (λ p. c p * val p))

  -- the kernel vector of column f
  abbrev pub kern : (ℕ → ℕ → K) → ℕ → ℕ → K
  kern R f c = unit (ops F) f c + ⊖ (R c f)
