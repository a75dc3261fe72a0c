-- The entry that is read, by the rule of the table.
use Rattle.std.proofs.Common.{◌<◌, arith}
use Rattle.std.proofs.lemmas.Grind.{common_steps}
use Rattle.rings.specs.OctetTables.{logarithm_at, logarithm_below, logarithm_value, logarithm_unique}
use Rattle.rings.specs.OctetTests.{tests, primitive}
use Rattle.rings.proofs.octets.logarithms.logarithm.Goals as goal

pub returns : goal.returns
returns c =
    let a = c.from.result in
    let low : 0 < a = omega arith in
    let high : a < 256 = omega arith in
    let read = logarithm_at tests primitive a low high c.logarithms.result.now c.logarithms.ensures in
    let below = logarithm_below tests primitive a low high in
    let value = logarithm_value tests primitive a low high in
    let unique = logarithm_unique tests c.logarithms.result.now c.logarithms.ensures a in
    record { below = grind (arith, common_steps); value = grind (arith, common_steps); unique = grind (arith, common_steps) }
