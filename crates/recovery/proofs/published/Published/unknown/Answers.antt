use Rattle.recovery.proofs.Laws.{field_laws}
use Rattle.recovery.proofs.Asking.{asked_open, asked_known}
use Rattle.recovery.proofs.published.Published.unknown.Goals as goal

pub returns-in-Some-clause-log : goal.returns-in-Some-clause-log
returns-in-Some-clause-log g c =
    λ n log h.
    asked_open _ (field_laws _ g.met.F.Ring.laws g.met.F.Field.inverses c.args.self.now.field) n log c.args.self.now.table h c.args.j c.in-Some.k
    c.if-j-n.false c.in-Some.ensures

pub returns-in-None-clause-log : goal.returns-in-None-clause-log
returns-in-None-clause-log g c =
    λ n log h.
    asked_known _ (field_laws _ g.met.F.Ring.laws g.met.F.Field.inverses c.args.self.now.field) n log c.args.self.now.table h c.args.j
    c.if-j-n.false c.in-None.ensures
