-- The calls are made on a fresh collection, and publication keeps its table.
use Rattle.std.proofs.Common.{[], vec_items}
use Rattle.linear.specs.Field.{FieldLaws}
use Rattle.recovery.specs.Tables.{Holds}
use Rattle.pass.specs.Recordings.{MakesAll}
use Rattle.pass.proofs.Logging.{all_recorded}
use Rattle.pass.proofs.recording.record.Goals as goal

pub returns : goal.returns
returns g c =
    let field = c.args.field in
    let m = g.F.Ring.meaning field in
    let laws : FieldLaws m = record { ring = g.met.F.Ring.laws field; inverses = g.met.F.Field.inverses field } in
    let n = c.args.unknowns in
    let calls = vec_items c.args.calls in
    let es = vec_items c.in_ok-events.events in
    let t = c.open-collection.result.table in
    let u = c.make_all.new.collection.table in
    let opened : Holds m n [] t = rw (← c.in_ok-width.ensures.1) c.open-collection.ensures.log in
    let made : MakesAll m calls t u es = rw (← c.open-collection.ensures.field) c.in_ok-events.ensures.made in
    (cc, rw c.publish-published.ensures.table (all_recorded m laws n calls t u es c.in_ok-width.ensures.0 opened made))
