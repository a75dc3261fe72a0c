use Rattle.std.proofs.Common.{◌≡◌, ℕ, ◌<◌, ◌≤◌, get_or}
use Rattle.algebra.proofs.multiples.scale.Given as goal

-- the codes before x are written, the others are as they were
abbrev pub invariant-loop-x : goal.invariant-loop-x
invariant-loop-x g l =
    let m = g.R.Ring.meaning l.r in
    ((k : ℕ) → k < l.x-index → get_or l.row k 0 ≡ m.product l.by (get_or l.initial.row k 0))
    × ((k : ℕ) → l.x-index ≤ k → get_or l.row k 0 ≡ get_or l.initial.row k 0)
