-- Throughout, sum + term × rest is a × b.
use Rattle.std.proofs.Common.{◌≡◌}
use lib.Bits.{bit_xor}
use Rattle.rings.specs.Octets.{octet_product}
use Rattle.rings.proofs.octets.by_shifts.ByShiftsMultiplication.product.Given as goal

abbrev pub invariant-loop-rest : goal.invariant-loop-rest
invariant-loop-rest l = bit_xor l.sum (octet_product 0x11D l.term l.rest) ≡ octet_product 0x11D l.a l.b

abbrev pub decreases-loop-rest : goal.decreases-loop-rest
decreases-loop-rest l = l.rest
