use Rattle.std.proofs.Common.{◌≡◌, drop}
use Rattle.runs.proofs.Matching.{Offering}
use Rattle.runs.proofs.answering.offers_match.Given as goal

-- the steps before the index match
abbrev pub invariant-loop-step : goal.invariant-loop-step
invariant-loop-step g l =
    let first = l.initial.collection in
    (l.collection.field ≡ first.field)
    × Offering (g.F.Ring.meaning first.field) g.row.N l.steps first.table (drop l.step-index l.steps) l.collection.table
