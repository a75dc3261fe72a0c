-- The numbers so far are written.
use Rattle.std.proofs.Common.{◌≡◌, ◌++◌, take, string_bytes}
use Rattle.std.specs.List.{flat_map}
use Rattle.text.specs.Writing.{after_blank}
use Rattle.text.proofs.writing.write_after_blanks.Given as goal

abbrev pub invariant-loop-number : goal.invariant-loop-number
invariant-loop-number l =
    string_bytes l.line ≡ string_bytes l.initial.line ++ flat_map after_blank (take l.number-index l.numbers)
