-- Operations on a type, with no laws: what sums and products of vectors are defined over, so that one definition serves the codes
-- of every ring and the elements of every abstract ring.
use Rattle.std.specs.Prelude.{ℕ, zero, suc}
use Rattle.algebra.specs.Meaning.{Meaning}

pub record Operations (K : Type 0) : Type 0 where
  infixl 65 ◌⊕◌
  infixl 70 ◌⊗◌
  pub 𝟘 : K
  pub 𝟙 : K
  pub ◌⊕◌ : K → K → K
  pub ◌⊗◌ : K → K → K
  pub ⊖ : K → K

-- the operations of a ring on its codes
abbrev pub operations : Meaning → Operations ℕ
operations m = record { 𝟘 = 0; 𝟙 = 1; ◌⊕◌ = m.sum; ◌⊗◌ = m.product; ⊖ = m.negative }

module _ {K : Type 0} (O : Operations K) where
  open O use {𝟘, ◌⊕◌, ◌⊗◌}

  infixl 65 ◌⊕◌
  infixl 70 ◌⊗◌
  -- f 0 + .. + f (n - 1)
  abbrev pub sum : ℕ → (ℕ → K) → K
  sum zero f = 𝟘
  sum (suc n) f = sum n f ⊕ f n

  -- the dot product of the first n entries of two vectors
  abbrev pub dot : ℕ → (ℕ → K) → (ℕ → K) → K
  dot n a b = sum n (λ i. a i ⊗ b i)

  -- entry (i, j) of the product of two matrices, of which the first has n columns and the second n rows
  abbrev pub times : ℕ → (ℕ → ℕ → K) → (ℕ → ℕ → K) → ℕ → ℕ → K
  times n a b i j = dot n (a i) (λ k. b k j)
