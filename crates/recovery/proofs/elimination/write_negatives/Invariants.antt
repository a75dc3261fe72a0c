use Rattle.std.proofs.Common.{◌≡◌, ℕ, ◌<◌}
use Rattle.algebra.specs.Vectors.{entries}
use Rattle.recovery.proofs.elimination.write_negatives.Given as goal

abbrev pub invariant-loop-i : goal.invariant-loop-i
invariant-loop-i g l = (k : ℕ) → k < l.i → entries l.out k ≡ (g.R.Ring.meaning l.r).negative (entries l.row k)
