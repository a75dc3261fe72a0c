-- The calls that came so far are made.
use Rattle.std.proofs.Common.{◌≡◌, vec_items}
use Rattle.pass.specs.Recordings.{MakesAll}
use Rattle.pass.proofs.recording.make_all.Given as goal

abbrev pub invariant-loop-call : goal.invariant-loop-call
invariant-loop-call g l =
    (l.collection.field ≡ l.initial.collection.field)
    × MakesAll (g.F.Ring.meaning l.initial.collection.field) l.yielded l.initial.collection.table l.collection.table (vec_items l.events)
