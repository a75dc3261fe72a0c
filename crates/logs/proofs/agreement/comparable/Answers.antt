use Rattle.std.proofs.Common.{eqb, ap₂}
use Rattle.linear.specs.Field.{FieldLaws}
use Rattle.logs.proofs.Keeping.{promised, agrees}
use Rattle.logs.proofs.agreement.comparable.Goals as goal

pub returns : goal.returns
returns g c =
    let m = g.F.Ring.meaning c.args.f.now in
    let k = g.G.Ring.meaning c.args.g.now in
    let lm : FieldLaws m = record { ring = g.met.F.Ring.laws c.args.f.now; inverses = g.met.F.Field.inverses c.args.f.now } in
    let lk : FieldLaws k = record { ring = g.met.G.Ring.laws c.args.g.now; inverses = g.met.G.Field.inverses c.args.g.now } in
    record { orders = ap₂ eqb c.order.ensures c.order-2.ensures; first = promised m lm; second = promised k lk; agree = agrees m k lm }
