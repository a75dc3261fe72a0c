-- The field of order 256. Bit i of a code is the coefficient of x^i, 0 or 1, so that a code is a polynomial of degree below 8. The
-- sum of two polynomials is the exclusive or of their bits; their product is reduced by a polynomial of degree 8, whose bits are p.
use Rattle.std.specs.Prelude.{ℕ, zero, suc, ◌+◌, ◌*◌, ◌/◌, ◌%◌, ◌^◌, bit_xor}
use Rattle.algebra.specs.Meaning.{Meaning, meant}

-- a coefficient times a polynomial
abbrev pub scaled : ℕ → ℕ → ℕ
scaled zero f = 0
scaled (suc c) f = f

-- the product of two polynomials, of which g has degree below n: the sum of f·x^i over each x^i in g
abbrev pub polynomial_product : ℕ → ℕ → ℕ → ℕ
polynomial_product zero f g = 0
polynomial_product (suc n) f g = bit_xor (scaled (g % 2) f) (polynomial_product n (f * 2) (g / 2))

-- the remainder of f, of degree below 8 + n, by p: where f has x^(8+k), p·x^k is taken away, for the highest k first
abbrev pub remainder : ℕ → ℕ → ℕ → ℕ
remainder p zero f = f
remainder p (suc k) f = remainder p k (bit_xor f (scaled (f / 2 ^ (8 + k) % 2) (p * 2 ^ k)))

unfoldable pub octet_product : ℕ → ℕ → ℕ → ℕ
octet_product p a b = remainder p 7 (polynomial_product 8 a b)

abbrev pub octets_by : ℕ → Meaning
octets_by p = meant 256 bit_xor (octet_product p) (λ a. a)

-- reduced by x^8 + x^4 + x^3 + x^2 + 1
abbrev pub octets : Meaning
octets = octets_by 0x11D

-- the powers of 2, which is the polynomial x
abbrev pub power_of : ℕ → ℕ → ℕ
power_of p zero = 1
power_of p (suc k) = octet_product p 2 (power_of p k)
