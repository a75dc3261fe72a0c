-- The lines passed so far meant nothing.
use Rattle.std.proofs.Common.{◌≡◌, length}
use Rattle.text.specs.Cursors.{left}
use Rattle.text.proofs.cursor.Cursor.next_line.Given as goal

abbrev pub invariant-loop-text : goal.invariant-loop-text
invariant-loop-text l = left l.self ≡ left l.initial.self

abbrev pub decreases-loop-text : goal.decreases-loop-text
decreases-loop-text l = length l.self.rest.now
