-- The codes of a finite field as a field of their own, and what is said of codes carried to it.
use Rattle.std.proofs.Common.{◌≡◌, ℕ, zero, suc, ◌<◌, List, length, get_or, sym, refl, ap, ◌∙◌, ap₂, arith}
use mathlib.Core.HLevel.{Σ_prop_path}
use native.Mathlib.Bridge.{le_prop}
use native.Mathlib.Decide.{ℕ_discrete, dec_lt}
use Rattle.std.proofs.lemmas.List.{get_or_past}
use Rattle.algebra.specs.Meaning.{Meaning, RingLaws}
use Rattle.algebra.specs.Operations.{Operations, operations, sum, dot}
use Rattle.algebra.specs.Vectors.{Codes, entries}
use Rattle.algebra.proofs.Sums.{sum_cong}
use Rattle.linear.specs.Field.{RingOn, FieldOn, FieldLaws}

module _ (m : Meaning) where
  abbrev pub Code : Type 0
  Code = (x : ℕ) × (x < m.order)

  pub same_code : (a b : Code) → a.0 ≡ b.0 → a ≡ b
  same_code a b e = Σ_prop_path (λ x. le_prop) e

-- the ring of the codes of any ring
module _ (m : Meaning) (laws : RingLaws m) where
  pub zero_below : 0 < m.order
  zero_below = let t = laws.laws.order_low in omega arith

  pub one_below : 1 < m.order
  one_below = let t = laws.laws.order_low in omega arith

  abbrev pub ring : RingOn (Code m)
  ring = record {
    ops = record {
      𝟘 = (0, zero_below);
      𝟙 = (1, one_below);
      ◌⊕◌ = λ a b. (m.sum a.0 b.0, laws.laws.sum_code a.0 b.0 a.1 b.1);
      ◌⊗◌ = λ a b. (m.product a.0 b.0, laws.laws.product_code a.0 b.0 a.1 b.1);
      ⊖ = λ a. (m.negative a.0, laws.laws.negative_code a.0 a.1);
    };
    ⊕-comm = λ a b. same_code m _ _ (laws.laws.sum_comm a.0 b.0 a.1 b.1);
    ⊕-assoc = λ a b c. same_code m _ _ (laws.laws.sum_assoc a.0 b.0 c.0 a.1 b.1 c.1);
    ⊕-zero = λ a. same_code m _ _ (laws.laws.sum_comm a.0 0 a.1 zero_below ∙ laws.laws.sum_zero a.0 a.1);
    ⊕-neg = λ a. same_code m _ _ (laws.laws.sum_negative a.0 a.1);
    ⊗-comm = λ a b. same_code m _ _ (laws.laws.product_comm a.0 b.0 a.1 b.1);
    ⊗-assoc = λ a b c. same_code m _ _ (laws.laws.product_assoc a.0 b.0 c.0 a.1 b.1 c.1);
    ⊗-one = λ a. same_code m _ _ (laws.laws.product_comm a.0 1 a.1 one_below ∙ laws.laws.product_one a.0 a.1);
    ⊗-dist = λ a b c. same_code m _ _ (laws.laws.product_sum a.0 b.0 c.0 a.1 b.1 c.1);
  }

module _ (m : Meaning) (laws : FieldLaws m) where
  pub zero_code : 0 < m.order
  zero_code = zero_below m laws.ring

  pub one_code : 1 < m.order
  one_code = one_below m laws.ring

  picked : (x : ℕ) → Dec (x < m.order) → Code m
  picked x (yes h) = (x, h)
  picked x (no h) = (0, zero_code)

  -- the code itself, or 0 for what is none
  pub code : ℕ → Code m
  code x = picked x (dec_lt x m.order)

  pub code_at : (x : ℕ) (h : x < m.order) → code x ≡ (x, h)
  unfolding code picked
  code_at x h = go (dec_lt x m.order)
    where
      go : (d : Dec (x < m.order)) → picked x d ≡ (x, h)
      go (yes k) = same_code m _ _ refl
      go (no k) = absurd (k h)

  pub code_is : (x : ℕ) → x < m.order → (code x).0 ≡ x
  code_is x h = ap (λ c. c.0) (code_at x h)

  pub code_same : (a b : ℕ) → a < m.order → b < m.order → code a ≡ code b → a ≡ b
  code_same a b h k e = sym (code_is a h) ∙ ap (λ c. c.0) e ∙ code_is b k

  pub codes_at : (xs : List ℕ) → Codes m xs → (i : ℕ) → get_or xs i 0 < m.order
  codes_at xs h i = go (dec_lt i (length xs))
    where
      go : Dec (i < length xs) → get_or xs i 0 < m.order
      go (yes l) = h i l
      go (no l) = rw (get_or_past xs i 0 (omega arith)) zero_code

  -- a list of codes as a vector over the field
  abbrev pub vec : List ℕ → ℕ → Code m
  vec xs i = code (entries xs i)

  pub inverse : (a : Code m) → Dec (a.0 ≡ 0) → Code m
  inverse a (yes e) = (0, zero_code)
  inverse a (no ne) = let t = laws.inverses a.0 (omega arith) a.1 in (t.0, t.1)

  pub inverse_is : (a : Code m) → ¬ (a.0 ≡ 0) → (d : Dec (a.0 ≡ 0)) → m.product a.0 (inverse a d).0 ≡ 1
  unfolding inverse
  inverse_is a ne (yes e) = absurd (ne e)
  inverse_is a ne (no k) = (laws.inverses a.0 _ a.1).2

  pub decided : (a b : Code m) → Dec (a.0 ≡ b.0) → Dec (a ≡ b)
  decided a b (yes e) = yes (same_code m a b e)
  decided a b (no ne) = no (λ e. ne (ap (λ c. c.0) e))

  abbrev pub field : FieldOn (Code m)
  field = record {
    ring = ring m laws.ring;
    inv = λ a. inverse a (ℕ_discrete a.0 0);
    dec = λ a b. decided a b (ℕ_discrete a.0 b.0);
    one_ne = λ e. let z : ◌≡◌ {A = ℕ} 1 0 = ap (λ c. c.0) e in omega arith;
    ⊗-inv = λ a ne. same_code m _ _ (inverse_is a (λ e. ne (same_code m _ _ e)) (ℕ_discrete a.0 0));
  }

  -- the operations of the field
  abbrev pub code_ops : Operations (Code m)
  code_ops = field.ring.ops

  open field.ring.ops use {𝟘, 𝟙, ◌⊕◌, ◌⊗◌, ⊖}

  pub code_zero : code 0 ≡ 𝟘
  code_zero = code_at 0 (zero_below m laws.ring)

  pub code_one : code 1 ≡ 𝟙
  code_one = code_at 1 (one_below m laws.ring)

  pub code_sum : (a b : ℕ) → a < m.order → b < m.order → code (m.sum a b) ≡ code a ⊕ code b
  code_sum a b h k =
      code_at (m.sum a b) (laws.ring.laws.sum_code a b h k)
      ∙ same_code m _ _ (ap₂ m.sum (sym (code_is a h)) (sym (code_is b k)))

  pub code_product : (a b : ℕ) → a < m.order → b < m.order → code (m.product a b) ≡ code a ⊗ code b
  code_product a b h k =
      code_at (m.product a b) (laws.ring.laws.product_code a b h k)
      ∙ same_code m _ _ (ap₂ m.product (sym (code_is a h)) (sym (code_is b k)))

  pub code_negative : (a : ℕ) → a < m.order → code (m.negative a) ≡ ⊖ (code a)
  code_negative a h =
      code_at (m.negative a) (laws.ring.laws.negative_code a h) ∙ same_code m _ _ (ap m.negative (sym (code_is a h)))

  pub to_zero : (a : ℕ) → a < m.order → code a ≡ 𝟘 → a ≡ 0
  to_zero a h e = code_same a 0 h zero_code (e ∙ sym code_zero)

  pub from_zero : (a : ℕ) → a ≡ 0 → code a ≡ 𝟘
  from_zero a e = ap code e ∙ code_zero

  -- a sum of codes is a code, and the sum over the field
  pub sum_codes : (n : ℕ) (f : ℕ → ℕ) → ((i : ℕ) → i < n → f i < m.order)
      → (sum (operations m) n f < m.order) × (code (sum (operations m) n f) ≡ sum code_ops n (λ i. code (f i)))
  sum_codes zero f h = (zero_code, code_zero)
  sum_codes (suc n) f h = go (sum_codes n f (λ i l. h i (omega arith)))
    where
      go : (sum (operations m) n f < m.order) × (code (sum (operations m) n f) ≡ sum code_ops n (λ i. code (f i)))
          → (m.sum (sum (operations m) n f) (f n) < m.order)
          × (code (m.sum (sum (operations m) n f) (f n)) ≡ sum code_ops n (λ i. code (f i)) ⊕ code (f n))
      go t = (
        laws.ring.laws.sum_code _ _ t.0 (h n (omega arith)),
        code_sum (sum (operations m) n f) (f n) t.0 (h n (omega arith)) ∙ ap (λ x. x ⊕ code (f n)) t.1,
      )

  -- and so is a dot product
  pub dot_codes : (n : ℕ) (a b : ℕ → ℕ) → ((i : ℕ) → i < n → a i < m.order) → ((i : ℕ) → i < n → b i < m.order)
      → (dot (operations m) n a b < m.order) × (code (dot (operations m) n a b) ≡ dot code_ops n (λ i. code (a i)) (λ i. code (b i)))
  dot_codes n a b ha hb =
      let t = sum_codes n (λ i. m.product (a i) (b i)) (λ i l. laws.ring.laws.product_code _ _ (ha i l) (hb i l)) in
      (t.0, t.1 ∙ sum_cong code_ops n _ _ (λ i l. code_product (a i) (b i) (ha i l) (hb i l)))
