-- Laws of sums and dot products over a commutative ring.
use Rattle.std.proofs.Common.{◌≡◌, ℕ, zero, suc, ◌<◌, sym, refl, ap, ◌∙◌, ap₂, arith}
use native.Mathlib.Decide.{ℕ_discrete}
use Rattle.algebra.specs.Operations.{sum, dot}
use Rattle.algebra.proofs.Sums.{sum_cong}
use Rattle.linear.specs.Field.{RingOn}
use Rattle.linear.specs.Table.{unit, unit_same, unit_other}
use Rattle.linear.proofs.Identities.{+_assoc, sorts, zero-+, +-zero, zero-*, *-zero, dist_l, neg_sum, neg_zero, *-one, *-comm, *-neg, dist_r}

module _ {K : Type 0} (F : RingOn K) where
  open F.ops use {𝟘, 𝟙, ◌⊕◌ as ◌+◌, ◌⊗◌ as ◌*◌, ⊖}

  infixl 65 ◌+◌
  infixl 70 ◌*◌
  pub sum_zero : (n : ℕ) (f : ℕ → K) → ((i : ℕ) → i < n → f i ≡ 𝟘) → sum F.ops n f ≡ 𝟘
  sum_zero zero f h = refl
  sum_zero (suc n) f h = ap₂ ◌+◌ (sum_zero n f (λ i l. h i (omega arith))) (h n (omega arith)) ∙ zero-+ F 𝟘

  four : (a b c d : K) → (a + b) + (c + d) ≡ (a + c) + (b + d)
  four a b c d = simp sorts

  pub sum_add : (n : ℕ) (f g : ℕ → K) → sum F.ops n (λ i. f i + g i) ≡ sum F.ops n f + sum F.ops n g
  sum_add zero f g = sym (zero-+ F 𝟘)
  sum_add (suc n) f g = ap (λ x. x + (f n + g n)) (sum_add n f g) ∙ four (sum F.ops n f) (sum F.ops n g) (f n) (g n)

  pub sum_mul : (n : ℕ) (a : K) (f : ℕ → K) → sum F.ops n (λ i. a * f i) ≡ a * sum F.ops n f
  sum_mul zero a f = sym (*-zero F a)
  sum_mul (suc n) a f = ap (λ x. x + a * f n) (sum_mul n a f) ∙ (sym (dist_l F a (sum F.ops n f) (f n)))

  pub sum_mul_r : (n : ℕ) (a : K) (f : ℕ → K) → sum F.ops n (λ i. f i * a) ≡ sum F.ops n f * a
  sum_mul_r zero a f = sym (zero-* F a)
  sum_mul_r (suc n) a f = ap (λ x. x + f n * a) (sum_mul_r n a f) ∙ (sym (dist_r F (sum F.ops n f) (f n) a))

  pub sum_neg : (n : ℕ) (f : ℕ → K) → sum F.ops n (λ i. ⊖ (f i)) ≡ ⊖ (sum F.ops n f)
  sum_neg zero f = sym (neg_zero F)
  sum_neg (suc n) f = ap (λ x. x + ⊖ (f n)) (sum_neg n f) ∙ (sym (neg_sum F (sum F.ops n f) (f n)))

  pub sum_swap : (n m : ℕ) (f : ℕ → ℕ → K) → sum F.ops n (λ i. sum F.ops m (λ j. f i j)) ≡ sum F.ops m (λ j. sum F.ops n (λ i. f i j))
  sum_swap zero m f = sym (sum_zero m (λ j. 𝟘) (λ i l. refl))
  sum_swap (suc n) m f = ap (λ x. x + sum F.ops m (f n)) (sum_swap n m f) ∙ (sym (sum_add m (λ j. sum F.ops n (λ i. f i j)) (f n)))

  pub sum_single : (n : ℕ) (f : ℕ → K) (q : ℕ) → q < n → ((i : ℕ) → i < n → ¬ (i ≡ q) → f i ≡ 𝟘) → sum F.ops n f ≡ f q
  sum_single zero f q l h = absurd (omega arith)
  sum_single (suc n) f q l h = go (ℕ_discrete q n) (sum_single n f q)
    where
      go : Dec (q ≡ n) → (q < n → ((i : ℕ) → i < n → ¬ (i ≡ q) → f i ≡ 𝟘) → sum F.ops n f ≡ f q) → sum F.ops n f + f n ≡ f q
      go (yes e) ih = rw e (rw (sum_zero n f (λ i k. h i (omega arith) (omega arith))) (zero-+ F (f n)))
      go (no ne) ih =
          ap₂ ◌+◌ (ih (omega arith) (λ i k. h i (omega arith))) (h n (omega arith) (λ e. ne (sym e))) ∙ +-zero F (f q)

  pub dot_add : (n : ℕ) (c u v : ℕ → K) → dot F.ops n c (λ i. u i + v i) ≡ dot F.ops n c u + dot F.ops n c v
  dot_add n c u v = sum_cong F.ops n _ _ (λ i l. dist_l F (c i) (u i) (v i)) ∙ sum_add n (λ i. c i * u i) (λ i. c i * v i)

  pub dot_neg : (n : ℕ) (c u : ℕ → K) → dot F.ops n c (λ i. ⊖ (u i)) ≡ ⊖ (dot F.ops n c u)
  dot_neg n c u = sum_cong F.ops n _ _ (λ i l. *-neg F (c i) (u i)) ∙ sum_neg n (λ i. c i * u i)

  pub dot_mul : (n : ℕ) (a : K) (c u : ℕ → K) → dot F.ops n c (λ i. a * u i) ≡ a * dot F.ops n c u
  dot_mul n a c u = sum_cong F.ops n _ (λ i. a * (c i * u i)) (λ i l. simp sorts) ∙ sum_mul n a (λ i. c i * u i)

  pub dot_comm : (n : ℕ) (c u : ℕ → K) → dot F.ops n c u ≡ dot F.ops n u c
  dot_comm n c u = sum_cong F.ops n _ _ (λ i l. *-comm F (c i) (u i))

  pub dot_cong : (n : ℕ) (c u v : ℕ → K) → ((i : ℕ) → i < n → u i ≡ v i) → dot F.ops n c u ≡ dot F.ops n c v
  dot_cong n c u v h = sum_cong F.ops n _ _ (λ i l. ap (λ x. c i * x) (h i l))

  pub dot_unit : (n : ℕ) (c : ℕ → K) (q : ℕ) → q < n → dot F.ops n c (unit F.ops q) ≡ c q
  dot_unit n c q l =
      sum_single n (λ i. c i * unit F.ops q i) q l (λ i k ne. rw (unit_other F.ops q i ne) (*-zero F (c i)))
      ∙ rw (unit_same F.ops q) (*-one F (c q))

  -- the dot of a combination of rows is the combination of the dots
  pub dot_rows : (n m : ℕ) (a : ℕ → K) (R : ℕ → ℕ → K) (v : ℕ → K)
      → dot F.ops n (λ c. sum F.ops m (λ p. a p * R p c)) v ≡ sum F.ops m (λ p. a p * dot F.ops n (R p) v)
  dot_rows n m a R v =
      sum_cong F.ops n _ (λ c. sum F.ops m (λ p. a p * (R p c * v c))) (λ c l. sym (sum_mul_r m (v c) (λ p. a p * R p c)) ∙ simp sorts)
      ∙ sum_swap n m (λ c p. a p * (R p c * v c))
      ∙ sum_cong F.ops m _ _ (λ p l. sum_mul n (a p) (λ c. R p c * v c))

  -- the first term apart
  pub sum_front : (n : ℕ) (f : ℕ → K) → sum F.ops (suc n) f ≡ f 0 + sum F.ops n (λ i. f (suc i))
  sum_front zero f = zero-+ F (f 0) ∙ sym (+-zero F (f 0))
  sum_front (suc n) f = ap (λ x. x + f (suc n)) (sum_front n f) ∙ +_assoc F (f 0) (sum F.ops n (λ i. f (suc i))) (f (suc n))
