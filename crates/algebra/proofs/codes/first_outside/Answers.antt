use Rattle.std.proofs.Common.{sym, ap, ◌∙◌}
use Rattle.algebra.specs.Outside.{first_outside}
use Rattle.algebra.proofs.Positions.{first_outside_is}
use Rattle.algebra.proofs.codes.first_outside.Goals as goal

pub returns : goal.returns
returns g c =
    c.first_at_least.ensures ∙ sym (first_outside_is c.order.result c.args.cells.now) ∙ ap (λ n. first_outside n 0 c.args.cells.now) c.order.ensures
