-- What is computed at p, and what follows: where each code but 0 times its 254th power is 1, the octets reduced by p are a field,
-- and the powers of 2 add their exponents.
use Rattle.std.specs.Prelude.{◌≡◌, ℕ, zero, suc, ◌+◌, ◌/◌, ◌%◌, ◌<◌, ◌≤◌, T, ◌==◌, bit_xor, nat_eq, nat_le, nat_lt}
use Rattle.std.proofs.Common.{sym, ap, ◌∙◌, add-zero, add-suc, arith, eqb→eq, leb→le, ltb→lt, lit<}
use Rattle.algebra.specs.Meaning.{RingLaws}
use Rattle.algebra.specs.Inverse.{HasInverses}
use Rattle.algebra.proofs.Guarded.{inside}
use Rattle.rings.specs.Octets.{scaled, octet_product, octets_by, power_of}
use Rattle.rings.specs.Computed.{below, at}
use Rattle.rings.specs.Polynomials.{double}
use Rattle.rings.specs.OctetLaws as ring

module _ (p : ℕ) where
  -- r·s^2·s^4·..·s^(2^n)
  abbrev pub squares_by : ℕ → ℕ → ℕ → ℕ
  squares_by zero s r = r
  squares_by (suc n) s r = squares_by n (octet_product p s s) (octet_product p r (octet_product p s s))

  -- the 254th power, as 254 = 2 + 4 + .. + 128
  unfoldable pub inverse_of : ℕ → ℕ
  inverse_of a = squares_by 7 a 1

-- p has degree 8, each code but 0 has an inverse, and the power 255 of 2 is 1
pub record Tests (p : ℕ) : Type 0 where
  pub degree_low : T (nat_le 256 p)
  pub degree_high : T (nat_lt p 512)
  pub inverses : T (below (λ a. nat_eq (octet_product p (suc a) (inverse_of p (suc a))) 1) 255)
  pub round : T (power_of p 255 == 1)

module _ {p : ℕ} (t : Tests p) where
  low : 256 ≤ p
  low = leb→le 256 p t.degree_low

  high : p < 512
  high = ltb→lt p 512 t.degree_high

  pub laws : RingLaws (octets_by p)
  laws = ring.octet_laws p low high

  pub product_code : (a b : ℕ) → a < 256 → b < 256 → octet_product p a b < 256
  product_code = ring.code p low high

  pub double_code : (a : ℕ) → a < 256 → double p a < 256
  double_code = ring.double_code p low high

  pub two : (a : ℕ) → a < 256 → octet_product p 2 a ≡ double p a
  two = ring.two p low high

  pub product_step : (a b : ℕ) → a < 256 → b < 256
      → octet_product p a b ≡ bit_xor (scaled (b % 2) a) (octet_product p (octet_product p 2 a) (b / 2))
  product_step = ring.product_step p low high

  -- ---- inverses

  squares_code : (n s r : ℕ) → s < 256 → r < 256 → squares_by p n s r < 256
  squares_code zero s r h k = k
  squares_code (suc n) s r h k =
      let square : octet_product p s s < 256 = product_code s s h h in
      squares_code n (octet_product p s s) (octet_product p r (octet_product p s s)) square
      (product_code r (octet_product p s s) k square)

  inverse_code : (a : ℕ) → a < 256 → inverse_of p a < 256
  unfolding inverse_of
  inverse_code a h = squares_code 7 a 1 h (lit< tt)

  pub inverse_is : (a : ℕ) → 0 < a → a < 256 → octet_product p a (inverse_of p a) ≡ 1
  inverse_is zero l h = absurd (let e : ⊥ = omega arith in e)
  inverse_is (suc a) l h =
      eqb→eq (octet_product p (suc a) (inverse_of p (suc a))) 1
      (at (λ a. nat_eq (octet_product p (suc a) (inverse_of p (suc a))) 1) 255 t.inverses a (omega arith))

  pub has_inverses : HasInverses (octets_by p)
  has_inverses a l h =
      let code : inverse_of p a < 256 = inverse_code a h in
      (inverse_of p a, code, inside 256 a (inverse_of p a) (octet_product p a (inverse_of p a)) h code ∙ inverse_is a l h)

  -- ---- powers of 2

  pub power_code : (k : ℕ) → power_of p k < 256
  power_code zero = lit< tt
  power_code (suc k) = product_code 2 (power_of p k) (lit< tt) (power_code k)

  pub product_power : (i j : ℕ) → octet_product p (power_of p i) (power_of p j) ≡ power_of p (i + j)
  product_power i zero = ring.one_right p (power_of p i) (power_code i) ∙ ap (power_of p) (sym (add-zero i))
  product_power i (suc j) =
      let a : ℕ = power_of p i in
      let b : ℕ = power_of p j in
      ap (octet_product p a) (two b (power_code j))
      ∙ ring.product_double p low high a b (power_code i) (power_code j)
      ∙ ap (double p) (product_power i j)
      ∙ sym (two (power_of p (i + j)) (power_code (i + j)))
      ∙ ap (power_of p) (sym (add-suc i j))

  pub power_255 : power_of p 255 ≡ 1
  power_255 = eqb→eq (power_of p 255) 1 t.round

  pub power_again : (k : ℕ) → power_of p (k + 255) ≡ power_of p k
  power_again k =
      sym (product_power k 255)
      ∙ ap (octet_product p (power_of p k)) power_255
      ∙ ring.one_right p (power_of p k) (power_code k)
