use Rattle.std.proofs.Common.{◌≡◌, ℕ, ◌<◌}
use Rattle.algebra.specs.Vectors.{entries}
use Rattle.recovery.specs.Cells.{cell}
use Rattle.recovery.proofs.table.Table.write_kernel.Given as goal

abbrev pub invariant-loop-i : goal.invariant-loop-i
invariant-loop-i g l = (k : ℕ) → k < l.i → entries l.out k ≡ (g.R.Ring.meaning l.r).negative (cell l.self.slots k l.f)
