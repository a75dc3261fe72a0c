use Rattle.std.proofs.Common.{◌≡◌, ℕ, ◌<◌, length}
use Rattle.algebra.specs.Vectors.{entries}
use Rattle.recovery.specs.Cells.{cell, taken_out}
use Rattle.recovery.proofs.table.Table.reduce.Given as goal

-- the slots that are passed are taken out
abbrev pub invariant-loop-c : goal.invariant-loop-c
invariant-loop-c g l =
    (k : ℕ) → k < length l.left
    → entries l.left k ≡ taken_out (g.R.Ring.meaning l.r) (entries l.coefficients) (λ p. cell l.self.slots p k) (entries l.initial.left k) (length l.yielded)
