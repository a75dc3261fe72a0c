use Rattle.recovery.proofs.Laws.{field_laws}
use Rattle.recovery.proofs.Asking.{asked_solution}
use Rattle.recovery.proofs.published.Published.solution.Goals as goal

pub returns-clause-log : goal.returns-clause-log
returns-clause-log g c =
    λ n log h.
    asked_solution _ (field_laws _ g.met.F.Ring.laws g.met.F.Field.inverses c.args.self.now.field) n log c.args.self.now.table h c.args.out.now
    c.write_values.new.out c.if-out-self.false c.write_values.auto.out c.write_values.ensures
