-- Products reduced by x^8 + x^4 + x^3 + x^2 + 1.
use Rattle.std.proofs.Common.{◌≡◌, ℕ, ◌+◌, ◌/◌, ◌%◌, ◌<◌}
use lib.Bits.{bit_xor, xor_assoc, xor_zero_r}
use Rattle.rings.specs.Octets.{octet_product, power_of}
use Rattle.rings.specs.OctetLaws.{zero_left, zero_right}
use Rattle.rings.specs.OctetFields as fields
use Rattle.rings.specs.OctetFields.{inverse_of}
use Rattle.rings.specs.OctetTests.{tests}

pub product_power : (i j : ℕ) → octet_product 0x11D (power_of 0x11D i) (power_of 0x11D j) ≡ power_of 0x11D (i + j)
product_power = fields.product_power tests

pub power_255 : power_of 0x11D 255 ≡ 1
power_255 = fields.power_255 tests

pub product_odd : (a b : ℕ) → a < 256 → b < 256 → b % 2 ≡ 1
    → octet_product 0x11D a b ≡ bit_xor a (octet_product 0x11D (octet_product 0x11D 2 a) (b / 2))
product_odd a b h k e = rw e at (fields.product_step tests a b h k)

pub product_even : (a b : ℕ) → a < 256 → b < 256 → b % 2 ≡ 0
    → octet_product 0x11D a b ≡ bit_xor 0 (octet_product 0x11D (octet_product 0x11D 2 a) (b / 2))
product_even a b h k e = rw e at (fields.product_step tests a b h k)

pub inverse_is : (a : ℕ) → 0 < a → a < 256 → octet_product 0x11D a (inverse_of 0x11D a) ≡ 1
inverse_is = fields.inverse_is tests

-- what a product by tables rests on, and one by shifts
pub ruleset by_table = (product_power, zero_left, zero_right)

pub ruleset by_shifts = (product_odd, product_even, zero_right, xor_assoc, xor_zero_r)
