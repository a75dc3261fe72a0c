-- The digits that are left complete the value of those read so far.
use Rattle.std.proofs.Common.{◌≡◌, ◌^◌, ◌<◌, drop}
use Rattle.std.specs.Str.{all_ascii_digits}
use Rattle.text.specs.Numbers.{value_after, value}
use Rattle.text.proofs.number.parse_number.Given as goal

abbrev pub invariant-loop-byte : goal.invariant-loop-byte
invariant-loop-byte l = (l.value < 2 ^ 32) × (all_ascii_digits (drop l.byte-index l.word) ≡ all_ascii_digits l.word) × (value_after l.value (drop l.byte-index l.word) ≡ value l.word)
