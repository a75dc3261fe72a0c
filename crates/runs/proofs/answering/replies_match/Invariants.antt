use Rattle.std.proofs.Common.{drop}
use Rattle.runs.proofs.Matching.{Asking}
use Rattle.runs.proofs.answering.replies_match.Given as goal

-- the questions before the index match
abbrev pub invariant-loop-one : goal.invariant-loop-one
invariant-loop-one g l = Asking (g.F.Ring.meaning l.published.field) g.row.N l.asked l.published.table (drop l.one-index l.asked)
