-- The requests read so far come before those of the lines that are left.
use Rattle.std.proofs.Common.{map, vec_items}
use Rattle.text.specs.Cursors.{left}
use Rattle.text.specs.Lines.{meaningful}
use Rattle.text.specs.Text.{lines}
use Rattle.text.proofs.Counting.{count}
use Rattle.requests.specs.Asked.{asked_by}
use Rattle.requests.proofs.Shrinking.{SoFar}
use Rattle.requests.proofs.reading.parse.Given as goal

abbrev pub invariant-loop-line : goal.invariant-loop-line
invariant-loop-line l = SoFar (meaningful 1 (lines l.text)) (map asked_by (vec_items l.requests)) (left l.cursor)

abbrev pub decreases-loop-line : goal.decreases-loop-line
decreases-loop-line l = count (left l.cursor)
