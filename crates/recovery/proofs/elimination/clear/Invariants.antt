use Rattle.std.proofs.Common.{◌≡◌, ℕ, ◌≤◌, [], get_or}
use Rattle.recovery.specs.Cells.{Cleared}
use Rattle.recovery.proofs.elimination.clear.Given as goal

-- the slots that are passed are cleared, the others are as they were
abbrev pub invariant-loop-slot : goal.invariant-loop-slot
invariant-loop-slot g l =
    Cleared (g.R.Ring.meaning l.r) l.slot-index l.q l.row l.fn.slots l.slot-items
    × ((p : ℕ) → l.slot-index ≤ p → get_or l.slot-items p [] ≡ get_or l.fn.slots p [])
