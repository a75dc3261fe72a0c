-- Each turn makes one call.
use Rattle.std.proofs.Common.{[], ◌∷◌, vec_items, refl, ◌∙◌, sym, subst}
use Rattle.std.proofs.lemmas.List.{map-id}
use Rattle.std.proofs.lemmas.Slice.{pushed}
use Rattle.std.proofs.lemmas.Iterator.Adapters.{YieldsList-from_vec}
use Rattle.std.proofs.lemmas.Iterator.Consumers.{YieldsList-end}
use Rattle.pass.specs.Recordings.{asked, Makes, MakesAll}
use Rattle.pass.proofs.Logging.{more_made}
use Rattle.pass.proofs.recording.make_all.Goals as goal

pub loop-call-preserved : goal.loop-call-preserved
loop-call-preserved g c =
    let call = c.in-Some.call in
    let e = c.in_ok-make.field-0 in
    let t = c.loop-call.collection.table in
    let u = c.make.new.collection.table in
    let one = subst (λ f. Makes (g.F.Ring.meaning f) (asked call) t u e) c.loop-call.invariant.0 c.in_ok-make.ensures.made in (
      c.make.ensures.field ∙ c.loop-call.invariant.0,
      more_made _ c.loop-call.yielded call _ t u (vec_items c.loop-call.events) (vec_items c.push.new.self) e c.loop-call.invariant.1 one
          (pushed {was = vec_items c.loop-call.events} (e ∷ []) refl c.in_ok-push.was c.push.ensures.items),
    )

pub returns : goal.returns
returns g c =
    let m = g.F.Ring.meaning c.args.collection.now.field in
    let shown = c.into_iter-call-iterator.ensures.into_iter_gives in
    let road = YieldsList-from_vec (vec_items c.args.calls) shown.0 (let long = c.args.calls.ok.0 in cc) in
    let all =
    (YieldsList-end road c.loop-call.yielded c.loop-call.call-iterator c.loop-call.yielded_by
    c.next.result c.next.new.self c.in-None.is c.next.ensures.steps).0 in
    record {
      field = c.loop-call.invariant.0;
      made =
          subst (λ cs. MakesAll m cs c.args.collection.now.table c.loop-call.collection.table (vec_items c.loop-call.events))
          (sym (map-id c.loop-call.yielded) ∙ all) c.loop-call.invariant.1;
    }
