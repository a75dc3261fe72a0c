-- Products of polynomials over the field of two elements, and their remainders by any p.
use Rattle.std.specs.Prelude.{◌≡◌, ℕ, zero, suc, ◌+◌, ◌*◌, ◌/◌, ◌%◌, ◌^◌, ◌<◌, T, refl}
use Rattle.std.proofs.Math.Path.{sym, ap, ap₂}
use Rattle.std.proofs.Common.{◌∙◌, mul-one, mul_assoc, pow-suc, lit<, shr-shr}
use Rattle.std.proofs.Math.Nat.{zero-div}
use native.Mathlib.Omega.{arith}
use Rattle.std.specs.Int.Bits.{bit_xor, xor_self, xor_zero_r}
use Rattle.std.proofs.lemmas.Nat.{xor_shr, xor_mod, xor_lt, shl-shr}
use Rattle.rings.specs.Octets.{scaled, polynomial_product, remainder}
use Rattle.rings.specs.Linear.{
  Linear,
  Bilinear,
  swapped,
  at_zero,
  same_linear,
  sum_linear,
  twice_linear,
  same_basis,
  agree₂,
}

-- ---- a coefficient times a polynomial

pub scaled_linear : (c : ℕ) → Linear (scaled c)
scaled_linear zero f g = refl
scaled_linear (suc c) f g = refl

scaled_sum : (c d f : ℕ) → c < 2 → d < 2 → scaled (bit_xor c d) f ≡ bit_xor (scaled c f) (scaled d f)
scaled_sum zero d f h k = refl
scaled_sum (suc zero) zero f h k = sym (xor_zero_r f)
scaled_sum (suc zero) (suc zero) f h k = sym (xor_self f)
scaled_sum (suc zero) (suc (suc d)) f h k = absurd (let e : ⊥ = omega arith in e)
scaled_sum (suc (suc c)) d f h k = absurd (let e : ⊥ = omega arith in e)

scaled_code : (c f : ℕ) → f < 256 → scaled c f < 256
scaled_code zero f h = lit< tt
scaled_code (suc c) f h = h

scaled_by : (up : ℕ → ℕ) → Linear up → (c f : ℕ) → scaled c (up f) ≡ up (scaled c f)
scaled_by up l zero f = sym (at_zero up l)
scaled_by up l (suc c) f = refl

pub bit_linear : (k f : ℕ) → Linear (λ x. scaled (x / 2 ^ k % 2) f)
bit_linear k f x y =
    ap (λ z. scaled (z % 2) f) (xor_shr x y k)
    ∙ ap (λ z. scaled z f) (xor_mod (x / 2 ^ k) (y / 2 ^ k) 1)
    ∙ scaled_sum (x / 2 ^ k % 2) (y / 2 ^ k % 2) f (omega arith) (omega arith)

-- ---- products, with any map `up` as the step from f·x^i to f·x^(i+1)

abbrev pub product_by : (ℕ → ℕ) → ℕ → ℕ → ℕ → ℕ
product_by up zero f g = 0
product_by up (suc n) f g = bit_xor (scaled (g % 2) f) (product_by up n (up f) (g / 2))

abbrev pub twice : ℕ → ℕ
twice f = f * 2

product_is : (n f g : ℕ) → polynomial_product n f g ≡ product_by twice n f g
product_is zero f g = refl
product_is (suc n) f g = ap (bit_xor (scaled (g % 2) f)) (product_is n (f * 2) (g / 2))

right_linear : (up : ℕ → ℕ) (n f : ℕ) → Linear (product_by up n f)
right_linear up zero f x y = refl
right_linear up (suc n) f x y =
    ap₂ bit_xor
    (ap (λ z. scaled z f) (xor_mod x y 1) ∙ scaled_sum (x % 2) (y % 2) f (omega arith) (omega arith))
    (ap (product_by up n (up f)) (xor_shr x y 1) ∙ right_linear up n (up f) (x / 2) (y / 2))
    ∙ swapped (scaled (x % 2) f) (scaled (y % 2) f) (product_by up n (up f) (x / 2)) (product_by up n (up f) (y / 2))

-- a factor of degree below n has no x^n
pub product_short : (up : ℕ → ℕ) (n f g : ℕ) → g < 2 ^ n → product_by up (suc n) f g ≡ product_by up n f g
product_short up zero f g h = ap (product_by up 1 f) (let e : g ≡ 0 = omega arith in e)
product_short up (suc n) f g h =
    ap (bit_xor (scaled (g % 2) f)) (product_short up n (up f) (g / 2) (let e = pow-suc 2 n in omega arith))

module _ (up : ℕ → ℕ) (l : Linear up) where
  left_linear : (n g : ℕ) → Linear (λ f. product_by up n f g)
  left_linear zero g x y = refl
  left_linear (suc n) g x y =
      ap₂ bit_xor (scaled_linear (g % 2) x y)
      (ap (λ z. product_by up n z (g / 2)) (l x y) ∙ left_linear n (g / 2) (up x) (up y))
      ∙ swapped (scaled (g % 2) x) (scaled (g % 2) y) (product_by up n (up x) (g / 2)) (product_by up n (up y) (g / 2))

  pub product_up : (n f g : ℕ) → product_by up n (up f) g ≡ up (product_by up n f g)
  product_up zero f g = sym (at_zero up l)
  product_up (suc n) f g =
      ap₂ bit_xor (scaled_by up l (g % 2) f) (product_up n (up f) (g / 2))
      ∙ sym (l (scaled (g % 2) f) (product_by up n (up f) (g / 2)))

pub product_bilinear : Bilinear (polynomial_product 8)
product_bilinear = record { left = λ g. left_linear twice twice_linear 8 g; right = λ f. right_linear twice 8 f }

comm_test : T (same_basis (polynomial_product 8) (λ f g. polynomial_product 8 g f))
comm_test = tt

pub product_comm : (f g : ℕ) → f < 256 → g < 256 → polynomial_product 8 f g ≡ polynomial_product 8 g f
product_comm = agree₂ (polynomial_product 8) (λ f g. polynomial_product 8 g f) product_bilinear
    (record { left = λ g. product_bilinear.right g; right = λ f. product_bilinear.left f }) comm_test

-- ---- remainders

module _ (p : ℕ) where
  -- the product with x of a polynomial of degree below 8, reduced
  unfoldable pub double : ℕ → ℕ
  double f = bit_xor (f * 2) (scaled (f / 128 % 2) p)

  pub double_linear : Linear double
  unfolding double
  double_linear = sum_linear twice (λ f. scaled (f / 128 % 2) p) twice_linear (bit_linear 7 p)

  pub remainder_linear : (k : ℕ) → Linear (remainder p k)
  remainder_linear zero x y = refl
  remainder_linear (suc k) x y =
      ap (remainder p k)
      (sum_linear (λ f. f) (λ f. scaled (f / 2 ^ (8 + k) % 2) (p * 2 ^ k)) same_linear (bit_linear (8 + k) (p * 2 ^ k)) x y)
      ∙ remainder_linear k _ _

  -- a polynomial of degree below 8 is its own remainder
  pub remainder_code : (k f : ℕ) → f < 256 → remainder p k f ≡ f
  remainder_code zero f h = refl
  remainder_code (suc k) f h =
      let none : f / 2 ^ (8 + k) ≡ 0 =
      sym (shr-shr f 8 k) ∙ ap (λ z. z / 2 ^ k) (let e : f / 256 ≡ 0 = omega arith in e) ∙ zero-div (2 ^ k) in
      ap (remainder p k) (ap (λ z. bit_xor f (scaled (z % 2) (p * 2 ^ k))) none ∙ xor_zero_r f) ∙ remainder_code k f h

  -- the bit 9 + k of f·x is the bit 8 + k of f
  bit_twice : (k f : ℕ) → f * 2 / 2 ^ (8 + suc k) ≡ f / 2 ^ (8 + k)
  bit_twice k f =
      ap (λ z. f * 2 / 2 ^ z) (let e : 8 + suc k ≡ 1 + (8 + k) = omega arith in e)
      ∙ sym (shr-shr (f * 2) 1 (8 + k))
      ∙ ap (λ z. z / 2 ^ (8 + k)) (shl-shr f 1)

  pub remainder_twice : (k f : ℕ) → remainder p (suc k) (f * 2) ≡ double (remainder p k f)
  unfolding double
  remainder_twice zero f =
      ap₂ (λ u v. bit_xor (f * 2) (scaled (u % 2) v)) (let e : f * 2 / 256 ≡ f / 128 = omega arith in e) (mul-one p)
  remainder_twice (suc k) f =
      let c : ℕ = f / 2 ^ (8 + k) % 2 in
      ap (remainder p (suc k))
      (ap₂ (λ u v. bit_xor (f * 2) (scaled (u % 2) v)) (bit_twice k f)
      (ap (λ z. p * z) (pow-suc 2 k) ∙ sym (mul_assoc p (2 ^ k) 2))
      ∙ ap (bit_xor (f * 2)) (scaled_by twice twice_linear c (p * 2 ^ k))
      ∙ sym (twice_linear f (scaled c (p * 2 ^ k))))
      ∙ remainder_twice k (bit_xor f (scaled c (p * 2 ^ k)))

  reduced : (k f g : ℕ) → f < 256 → remainder p k (product_by twice (suc k) f g) ≡ product_by double (suc k) f g
  reduced zero f g h = refl
  reduced (suc k) f g h =
      let term : ℕ = scaled (g % 2) f in
      let rest : ℕ = product_by twice (suc k) f (g / 2) in
      remainder_linear (suc k) term (product_by twice (suc k) (f * 2) (g / 2))
      ∙ ap₂ bit_xor (remainder_code (suc k) term (scaled_code (g % 2) f h))
      (ap (remainder p (suc k)) (product_up twice twice_linear (suc k) f (g / 2))
      ∙ remainder_twice k rest
      ∙ ap double (reduced k f (g / 2) h)
      ∙ sym (product_up double double_linear (suc k) f (g / 2)))

  -- the product's remainder is reached by doubling with reduction
  pub by_doubling : (f g : ℕ) → f < 256 → remainder p 7 (polynomial_product 8 f g) ≡ product_by double 8 f g
  by_doubling f g h = ap (remainder p 7) (product_is 8 f g) ∙ reduced 7 f g h

  -- products of codes are codes, where doubles are
  pub product_code : ((f : ℕ) → f < 256 → double f < 256) → (n f g : ℕ) → f < 256 → product_by double n f g < 256
  product_code d zero f g h = lit< tt
  product_code d (suc n) f g h =
      xor_lt 8 (scaled (g % 2) f) (product_by double n (double f) (g / 2)) (scaled_code (g % 2) f h)
      (product_code d n (double f) (g / 2) (d f h))
