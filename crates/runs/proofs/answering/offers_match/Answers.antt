use Rattle.std.proofs.Common.{true, false, [], ◌∷◌, ◌∙◌, subst}
use Rattle.runs.specs.Matching.{OffersMatch}
use Rattle.runs.proofs.Matching.{offering_more, offering_fails}
use Rattle.runs.proofs.answering.offers_match.Goals as goal

pub loop-step-preserved : goal.loop-step-preserved
loop-step-preserved g c =
    let first = c.args.collection.now in
    let before = c.loop-step.collection in
    let after = c.offer_matches.new.collection in
    let s = c.step-item.result in (
      c.offer_matches.ensures.field ∙ c.loop-step.invariant.0,
      offering_more _ g.row.N c.args.steps.now first.table s c.loop-step.step-index c.loop-step-test.true c.step-item.is
          before.table after.table c.loop-step.invariant.1
          (subst (λ f. OffersMatch (g.F.Ring.meaning f) g.row.N (s ∷ []) before.table true after.table) c.loop-step.invariant.0
          c.if-not-offer_matches.ensures.matched),
    )

pub returns-then-not-offer_matches : goal.returns-then-not-offer_matches
returns-then-not-offer_matches g c =
    let first = c.args.collection.now in
    let before = c.loop-step.collection in
    let after = c.offer_matches.new.collection in
    let s = c.step-item.result in
    record {
      field = c.offer_matches.ensures.field ∙ c.loop-step.invariant.0;
      matched =
          offering_fails _ g.row.N c.args.steps.now first.table s c.loop-step.step-index c.loop-step-test.true c.step-item.is
          before.table after.table c.loop-step.invariant.1
          (subst (λ f. OffersMatch (g.F.Ring.meaning f) g.row.N (s ∷ []) before.table false after.table) c.loop-step.invariant.0
          c.if-not-offer_matches.ensures.matched);
    }
