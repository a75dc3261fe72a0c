use Rattle.std.proofs.Common.{◌≡◌, Decides, Ok, rules, sym, ◌∙◌}
use Rattle.std.proofs.lemmas.Bool.{false≢true}
use Rattle.std.proofs.lemmas.Bool.Decides.{Decides-eqb}
use Rattle.std.proofs.lemmas.Slice.Eq.{slice_eq-Decides}
use Rattle.linear.specs.Field.{FieldLaws}
use Rattle.runs.proofs.Matching.{offer_matched}
use Rattle.runs.proofs.answering.offer_matches.Goals as goal

pub returns-then-eq-clause-matched : goal.returns-then-eq-clause-matched
returns-then-eq-clause-matched g c =
    let field = c.args.collection.now.field in
    let m = g.F.Ring.meaning field in
    let laws : FieldLaws m = record { ring = g.met.F.Ring.laws field; inverses = g.met.F.Field.inverses field } in
    let s = c.args.step.now in
    let offered = c.offer-answer in
    let answered : Decides c.eq.result (offered.result ≡ Ok s.answer) = search rules in
    let weighed : Decides c.eq-then-eq.result (offered.new.weights ≡ s.weights) = slice_eq-Decides Decides-eqb _ _ _ c.eq-then-eq.ensures in
    offer_matched m laws g.row.N s c.args.collection.now.table offered.new.self.table offered.result offered.new.weights
    _ (offered.ensures.log g.row.N) ((λ h. (answered.0 c.if-eq.true, weighed.0 h)), (λ p. weighed.1 p.1))

pub returns-else-eq-clause-matched : goal.returns-else-eq-clause-matched
returns-else-eq-clause-matched g c =
    let field = c.args.collection.now.field in
    let m = g.F.Ring.meaning field in
    let laws : FieldLaws m = record { ring = g.met.F.Ring.laws field; inverses = g.met.F.Field.inverses field } in
    let s = c.args.step.now in
    let offered = c.offer-answer in
    let answered : Decides c.eq.result (offered.result ≡ Ok s.answer) = search rules in
    offer_matched m laws g.row.N s c.args.collection.now.table offered.new.self.table offered.result offered.new.weights
    _ (offered.ensures.log g.row.N) ((λ h. absurd (false≢true (sym c.if-eq.false ∙ h))), (λ p. answered.1 p.0))
