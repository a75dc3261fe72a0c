-- Each turn compares the replies to one question.
use Rattle.std.proofs.lemmas.List.Elements.{All-push}
use Rattle.std.proofs.lemmas.Iterator.{YieldsList}
use Rattle.std.proofs.lemmas.Iterator.Consumers.{YieldsList-at, YieldsList-so_far, YieldsList-turn, YieldsList-end}
use Rattle.linear.specs.Field.{FieldLaws}
use Rattle.pass.specs.Comparisons.{Alike}
use Rattle.pass.proofs.Answering.{replied_alike}
use Rattle.pass.proofs.Comparing.{all_among, first_among}
use Rattle.pass.proofs.comparison.first_difference.Goals as goal

pub loop-question-preserved : goal.loop-question-preserved
loop-question-preserved g c =
    let a = c.args.a.now in
    let b = c.args.b.now in
    let m = g.F.Ring.meaning a.field in
    let k = g.G.Ring.meaning b.field in
    let lm : FieldLaws m = record { ring = g.met.F.Ring.laws a.field; inverses = g.met.F.Field.inverses a.field } in
    let lk : FieldLaws k = record { ring = g.met.G.Ring.laws b.field; inverses = g.met.G.Field.inverses b.field } in
    All-push (Alike m k c.args.unknowns a.table b.table) _ _ c.loop-question.invariant
    (replied_alike m k lm lk c.args.unknowns a.table b.table c.in-Some.question _ _ c.in_ok-first.ensures c.in_ok-second.ensures c.in_default.ensures)

pub returns-in-Some-between : goal.returns-in-Some-between
returns-in-Some-between g c = λ asked gives.
    let road : YieldsList g.Q.Iterator.next_gives (λ q. q) c.into_iter-question-iterator.result asked =
    YieldsList-at c.into_iter-question-iterator.ensures.into_iter_gives (record { runs = gives }) in
    let xs = c.loop-question.yielded in
    let by = c.loop-question.yielded_by in
    first_among _ _ _ _ _ asked xs c.in-Some.question _ _ _ (YieldsList-so_far road xs c.loop-question.question-iterator by)
    (YieldsList-turn road xs c.loop-question.question-iterator by c.next.result c.next.new.self c.in-Some.question c.in-Some.is c.next.ensures.steps)
    c.loop-question.invariant c.in_ok-first.ensures c.in_ok-second.ensures c.in-Some-between.ensures

pub returns : goal.returns
returns g c = λ asked gives.
    let road : YieldsList g.Q.Iterator.next_gives (λ q. q) c.into_iter-question-iterator.result asked = YieldsList-at c.into_iter-question-iterator.ensures.into_iter_gives (record { runs = gives }) in
    let xs = c.loop-question.yielded in
    all_among _ _ _ _ _ asked xs
    (YieldsList-end road xs c.loop-question.question-iterator c.loop-question.yielded_by c.next.result c.next.new.self c.in-None.is c.next.ensures.steps).0
    c.loop-question.invariant
