use Rattle.std.proofs.Common.{refl}
use Rattle.recovery.proofs.Laws.{field_laws}
use Rattle.recovery.proofs.Holding.{holds_opened}
use Rattle.recovery.proofs.collection.Collection.open.Goals as goal

pub returns-clause-log : goal.returns-clause-log
returns-clause-log g c =
    holds_opened _ (field_laws _ g.met.F.Ring.laws g.met.F.Field.inverses c.args.field) c.args.width.unknowns _ c.unknowns.ensures refl refl
