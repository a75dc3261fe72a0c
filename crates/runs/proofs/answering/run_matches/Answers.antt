use Rattle.std.proofs.Common.{true, [], ◌∙◌, subst}
use Rattle.recovery.specs.Tables.{Holds}
use Rattle.runs.specs.Matching.{OffersMatch, RepliesMatch}
use Rattle.runs.proofs.Matching.{run_matched}
use Rattle.runs.proofs.answering.run_matches.Goals as goal

pub returns-then-offers_match : goal.returns-then-offers_match
returns-then-offers_match g c =
    let m = g.F.Ring.meaning c.args.field in
    let n = g.row.N in
    let steps = c.args.steps.now in
    let asked = c.args.asked.now in
    let r = c.replies_match.result in
    let width = c.in-Ok.ensures in
    let opened = c.open-collection.ensures in
    let first = c.open-collection.result.table in
    let last = c.offers_match.new.collection.table in
    let field = c.publish.ensures.field ∙ c.offers_match.ensures.field ∙ opened.field in
    run_matched m n steps asked first last r width.0 (subst (λ k. Holds m k [] first) width.1 opened.log)
    (subst (λ f. OffersMatch (g.F.Ring.meaning f) n steps first true last) opened.field c.if-offers_match.ensures.matched)
    (subst (λ t. RepliesMatch m n asked t r) c.publish.ensures.table
    (subst (λ f. RepliesMatch (g.F.Ring.meaning f) n asked c.publish.result.table r) field c.replies_match.ensures))
