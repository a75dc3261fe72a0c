-- The steps read so far come before those of the lines that are left, and no fault was found.
use Rattle.std.proofs.Common.{◌≡◌, None, map, vec_items}
use Rattle.text.specs.Cursors.{left}
use Rattle.text.proofs.Counting.{count}
use Rattle.commands.specs.declared.command.FieldName.TheVariants.{Residues}
use Rattle.commands.specs.declared.state.State.TheVariants.{Start}
use Rattle.commands.specs.Format.{read_from}
use Rattle.commands.specs.Steps.{step_of}
use Rattle.commands.proofs.Going.{following}
use Rattle.commands.proofs.reading.read_lines.Given as goal

abbrev pub invariant-loop-number : goal.invariant-loop-number
invariant-loop-number l = (l.parsed.fault ≡ None) × (following (map step_of (vec_items l.parsed.commands)) (read_from l.state l.parsed.field (left l.cursor)) ≡ read_from Start Residues (left l.initial.cursor))

abbrev pub decreases-loop-number : goal.decreases-loop-number
decreases-loop-number l = count (left l.cursor)
