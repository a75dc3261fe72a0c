-- The codes below 256, with products reduced by any p of degree 8, are a commutative ring.
use Rattle.std.specs.Prelude.{◌≡◌, ℕ, zero, suc, ◌+◌, ◌-◌, ◌*◌, ◌/◌, ◌%◌, ◌^◌, ◌<◌, ◌≤◌, bit_xor, refl}
use Rattle.std.proofs.Common.{sym, ap₂, ◌∙◌, pow-suc, zero-add, lit<, lit≤}
use Rattle.std.proofs.Math.Path.{ap}
use Rattle.std.proofs.Math.Decide.{dec_lt}
use native.Mathlib.Omega.{arith}
use Rattle.std.specs.Int.Bits.{xor_assoc, xor_self, xor_zero_r}
use Rattle.std.proofs.lemmas.Nat.{xor_comm, xor_lt, xor_block}
use Rattle.std.proofs.Math.Pow.{pow-lt}
use Rattle.algebra.specs.Meaning.{Laws, RingLaws}
use Rattle.algebra.proofs.Guarded.{guarded}
use Rattle.rings.specs.Octets.{scaled, polynomial_product, remainder, octet_product, octets_by}
use Rattle.rings.specs.Linear.{Bilinear, at_zero, agree}
use Rattle.rings.specs.Polynomials.{
  product_by,
  product_bilinear,
  product_comm,
  product_short,
  double,
  double_linear,
  remainder_linear,
  remainder_code,
  by_doubling,
  product_up,
  product_code,
}

module _ (p : ℕ) where
  pub bilinear : Bilinear (octet_product p)
  unfolding octet_product
  bilinear = record {
    left = λ b x y.
        ap (remainder p 7) (product_bilinear.left b x y)
        ∙ remainder_linear p 7 (polynomial_product 8 x b) (polynomial_product 8 y b);
    right = λ a x y.
        ap (remainder p 7) (product_bilinear.right a x y)
        ∙ remainder_linear p 7 (polynomial_product 8 a x) (polynomial_product 8 a y);
  }

  pub zero_left : (b : ℕ) → octet_product p 0 b ≡ 0
  zero_left b = at_zero (λ a. octet_product p a b) (bilinear.left b)

  pub zero_right : (a : ℕ) → octet_product p a 0 ≡ 0
  zero_right a = at_zero (octet_product p a) (bilinear.right a)

  pub comm : (a b : ℕ) → a < 256 → b < 256 → octet_product p a b ≡ octet_product p b a
  unfolding octet_product
  comm a b h k = ap (remainder p 7) (product_comm a b h k)

  pub one_right : (a : ℕ) → a < 256 → octet_product p a 1 ≡ a
  unfolding octet_product
  one_right a h = ap (remainder p 7) (xor_zero_r a) ∙ remainder_code p 7 a h

  pub doubled : (a b : ℕ) → a < 256 → octet_product p a b ≡ product_by (double p) 8 a b
  unfolding octet_product
  doubled a b h = by_doubling p a b h

  -- doubling by cases
  pub double_low : (a : ℕ) → a < 128 → double p a ≡ a * 2
  unfolding double
  double_low a h =
      let none : a / 128 % 2 ≡ 0 = omega arith in
      ap (λ z. bit_xor (a * 2) (scaled z p)) none ∙ xor_zero_r (a * 2)

  pub double_high : (a : ℕ) → 128 ≤ a → a < 256 → double p a ≡ bit_xor (a * 2) p
  unfolding double
  double_high a h k =
      let one : a / 128 % 2 ≡ 1 = omega arith in
      ap (λ z. bit_xor (a * 2) (scaled z p)) one

module _ (p : ℕ) (low : 256 ≤ p) (high : p < 512) where
  -- a number of bit 8, and none above, is 256 and the bits below
  pub double_code : (a : ℕ) → a < 256 → double p a < 256
  double_code a h = elim (dec_lt a 128) [
    | yes k ↦ (let e = double_low p a k in omega arith)
    | no k ↦
        let r : ℕ = a * 2 - 256 in
        let s : ℕ = p - 256 in
        let er : 1 * 256 + r ≡ a * 2 = omega arith in
        let es : 1 * 256 + s ≡ p = omega arith in
        let hr : r < 256 = omega arith in
        let hs : s < 256 = omega arith in
        let e : double p a ≡ bit_xor r s =
        double_high p a (omega arith) h ∙ sym (ap₂ bit_xor er es) ∙ xor_block 8 1 1 r s hr hs
        ∙ zero-add (bit_xor r s) in
        rw e (xor_lt 8 r s hr hs)
  ]

  pub code : (a b : ℕ) → a < 256 → b < 256 → octet_product p a b < 256
  code a b h k = rw (doubled p a b h) (product_code p double_code 8 a b h)

  pub product_double : (a b : ℕ) → a < 256 → b < 256 → octet_product p a (double p b) ≡ double p (octet_product p a b)
  product_double a b h k =
      comm p a (double p b) h (double_code b k)
      ∙ doubled p (double p b) a (double_code b k)
      ∙ product_up (double p) (double_linear p) 8 b a
      ∙ ap (double p) (sym (doubled p b a k) ∙ comm p b a k h)

  -- the product with 2
  pub two : (a : ℕ) → a < 256 → octet_product p 2 a ≡ double p a
  unfolding double
  two a h =
      comm p 2 a (lit< tt) h ∙ product_double a 1 h (lit< tt) ∙ ap (double p) (one_right p a h)

  -- the lowest bit of b, and the others
  pub product_step : (a b : ℕ) → a < 256 → b < 256
      → octet_product p a b ≡ bit_xor (scaled (b % 2) a) (octet_product p (octet_product p 2 a) (b / 2))
  product_step a b h k =
      doubled p a b h
      ∙ ap (bit_xor (scaled (b % 2) a))
      (sym (product_short (double p) 7 (double p a) (b / 2) (omega arith))
      ∙ sym (doubled p (double p a) (b / 2) (double_code a h))
      ∙ ap (λ z. octet_product p z (b / 2)) (sym (two a h)))

  power_double : (k : ℕ) → suc k < 8 → 2 ^ suc k ≡ double p (2 ^ k)
  power_double k h =
      let less : 2 ^ k < 2 ^ 7 = pow-lt {i = k} {j = 7} (omega arith) in
      pow-suc 2 k ∙ sym (double_low p (2 ^ k) less)

  -- associativity where the last factor is a power of x
  assoc_power : (a b : ℕ) → a < 256 → b < 256 → (k : ℕ) → k < 8
      → octet_product p (octet_product p a b) (2 ^ k) ≡ octet_product p a (octet_product p b (2 ^ k))
  assoc_power a b h l zero m =
      one_right p (octet_product p a b) (code a b h l) ∙ ap (octet_product p a) (sym (one_right p b l))
  assoc_power a b h l (suc k) m =
      let less : 2 ^ k < 2 ^ 8 = pow-lt {i = k} {j = 8} (omega arith) in
      ap (octet_product p (octet_product p a b)) (power_double k m)
      ∙ product_double (octet_product p a b) (2 ^ k) (code a b h l) less
      ∙ ap (double p) (assoc_power a b h l k (omega arith))
      ∙ sym (product_double a (octet_product p b (2 ^ k)) h (code b (2 ^ k) l less))
      ∙ ap (octet_product p a) (sym (product_double b (2 ^ k) l less) ∙ ap (octet_product p b) (sym (power_double k m)))

  pub assoc : (a b c : ℕ) → a < 256 → b < 256 → c < 256
      → octet_product p (octet_product p a b) c ≡ octet_product p a (octet_product p b c)
  assoc a b c h k m =
      agree (octet_product p (octet_product p a b)) (λ c. octet_product p a (octet_product p b c))
      ((bilinear p).right (octet_product p a b))
      (λ x y. ap (octet_product p a) ((bilinear p).right b x y) ∙ (bilinear p).right a (octet_product p b x) (octet_product p b y))
      8 (assoc_power a b h k) c m

  laws : Laws 256 bit_xor (octet_product p) (λ a. a)
  laws = record {
    order_low = lit≤ tt;
    order_high = lit≤ tt;
    sum_code = xor_lt 8;
    product_code = code;
    negative_code = λ a h. h;
    sum_comm = λ a b h k. xor_comm a b;
    sum_assoc = λ a b c h k m. xor_assoc a b c;
    sum_zero = λ a h. refl;
    sum_negative = λ a h. xor_self a;
    product_comm = comm p;
    product_assoc = assoc;
    product_one = λ a h. comm p 1 a (lit< tt) h ∙ one_right p a h;
    product_sum = λ a b c h k m. (bilinear p).right a b c;
  }

  pub octet_laws : RingLaws (octets_by p)
  octet_laws = guarded 256 bit_xor (octet_product p) (λ a. a) laws
