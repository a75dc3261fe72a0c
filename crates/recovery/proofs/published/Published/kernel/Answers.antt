use Rattle.std.proofs.Common.{sym}
use Rattle.recovery.proofs.Laws.{field_laws}
use Rattle.recovery.proofs.Asking.{asked_column, asked_kernel}
use Rattle.recovery.proofs.published.Published.kernel.Goals as goal

pub returns-in-Some-clause-log : goal.returns-in-Some-clause-log
returns-in-Some-clause-log g c =
    λ n log h.
    asked_kernel _ (field_laws _ g.met.F.Ring.laws g.met.F.Field.inverses c.args.self.now.field) n log c.args.self.now.table h c.args.k c.in-Some.f
    c.args.out.now c.write_kernel.new.out c.if-k-n.false c.if-out-n.false c.write_kernel.auto.out (sym c.in-Some.ensures.here) c.write_kernel.ensures

-- there is always such a column
pub returns-in_default-clause-log : goal.returns-in_default-clause-log
returns-in_default-clause-log g c =
    λ n log h.
    absurd
    (asked_column _ (field_laws _ g.met.F.Ring.laws g.met.F.Field.inverses c.args.self.now.field) n log c.args.self.now.table h c.args.k c.if-k-n.false
    (sym c.in_default.ensures.here))
