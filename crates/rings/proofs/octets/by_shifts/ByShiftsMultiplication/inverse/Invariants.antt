-- The squarings that are left lead to the 254th power.
use Rattle.std.proofs.Common.{◌≡◌, ◌-◌}
use Rattle.std.specs.NonZero.{non_zero_u8_get}
use Rattle.rings.specs.OctetFields.{squares_by, inverse_of}
use Rattle.rings.proofs.octets.by_shifts.ByShiftsMultiplication.inverse.Given as goal

abbrev pub invariant-loop : goal.invariant-loop
invariant-loop l = squares_by 0x11D (7 - l.counter) l.square l.power ≡ inverse_of 0x11D (non_zero_u8_get l.fn.a)
