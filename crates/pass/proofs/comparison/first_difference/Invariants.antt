-- The questions that came so far are answered alike.
use Rattle.std.specs.List.{All}
use Rattle.pass.specs.Comparisons.{Alike}
use Rattle.pass.proofs.comparison.first_difference.Given as goal

abbrev pub invariant-loop-question : goal.invariant-loop-question
invariant-loop-question g l = All (Alike (g.F.Ring.meaning l.a.field) (g.G.Ring.meaning l.b.field) l.unknowns l.a.table l.b.table) l.yielded
