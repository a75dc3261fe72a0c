-- The rows that are left follow the cells read so far.
use Rattle.std.proofs.Common.{◌≡◌, ◌-◌}
use Rattle.text.specs.Cursors.{left}
use Rattle.requests.specs.Asked.{cells_of}
use Rattle.requests.specs.Format.{read_rows}
use Rattle.requests.specs.Giving.{preceded}
use Rattle.requests.proofs.reading.read_rows.Given as goal

abbrev pub invariant-loop : goal.invariant-loop
invariant-loop l = preceded (cells_of l.cells) (read_rows (l.rows - l.counter) l.columns (left l.cursor)) ≡ read_rows l.rows l.columns (left l.initial.cursor)
