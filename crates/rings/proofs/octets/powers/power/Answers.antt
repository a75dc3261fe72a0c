-- The entry that is read, by the rule of the table; the power i is the power i - 255.
use Rattle.std.proofs.Common.{◌-◌, arith, rules}
use Rattle.std.proofs.lemmas.Grind.{common_steps}
use Rattle.rings.specs.OctetFields.{power_again}
use Rattle.rings.specs.OctetTables.{power_at}
use Rattle.rings.specs.OctetTests.{tests}
use Rattle.rings.proofs.octets.powers.power.Goals as goal

pub returns : goal.returns
returns c =
    let read = power_at tests c.powers.result.now c.powers.ensures c.before.before.before.before.if-i-lt255.place (search rules) in
    grind (arith, common_steps, power_again tests (c.args.i - 255))
