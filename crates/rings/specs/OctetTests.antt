-- The tests at x^8 + x^4 + x^3 + x^2 + 1.
use Rattle.rings.specs.Octets.{octet_product}
use Rattle.rings.specs.Polynomials.{double}
use Rattle.rings.specs.OctetFields.{Tests, inverse_of}
use Rattle.rings.specs.OctetTables.{Primitive, logarithm_of}

pub tests : Tests 0x11D
unfolding octet_product inverse_of
tests = record { degree_low = tt; degree_high = tt; inverses = tt; round = tt }

pub primitive : Primitive 0x11D
unfolding double logarithm_of
primitive = tt
