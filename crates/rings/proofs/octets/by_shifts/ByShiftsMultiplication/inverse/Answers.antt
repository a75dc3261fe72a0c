-- Seven squarings give the 254th power, which is the inverse.
use Rattle.std.proofs.Common.{◌≡◌, suc, ◌+◌, ◌-◌, ap, arith}
use Rattle.std.proofs.lemmas.Grind.{common_steps}
use Rattle.rings.specs.OctetFields.{squares_by, inverse_of}
use Rattle.rings.proofs.octets.by_shifts.ByShiftsMultiplication.inverse.Goals as goal

pub loop-init : goal.loop-init
unfolding inverse_of
loop-init c = ap (λ z. squares_by 0x11D 7 z 1) c.get-square.ensures.value

pub loop-preserved : goal.loop-preserved
loop-preserved c =
    let left : 7 - c.loop.counter ≡ suc (7 - (c.loop.counter + 1)) = omega arith in
    let inv = rw left at c.loop.invariant in
    grind (arith, common_steps)
