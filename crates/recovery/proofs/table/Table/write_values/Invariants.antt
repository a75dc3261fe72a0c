use Rattle.std.proofs.Common.{◌≡◌, ℕ, ◌<◌}
use Rattle.algebra.specs.Vectors.{entries}
use Rattle.recovery.specs.Cells.{cell}
use Rattle.recovery.proofs.table.Table.write_values.Given as goal

abbrev pub invariant-loop-i : goal.invariant-loop-i
invariant-loop-i l = (k : ℕ) → k < l.i → entries l.out k ≡ cell l.self.slots k l.self.width
