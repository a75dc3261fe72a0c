use Rattle.std.proofs.Common.{◌≡◌, true, false, ltb, Some, None, sym, ap, ◌∙◌, arith}
use Rattle.std.proofs.lemmas.Bool.{cond-true, cond-false, lt-ltb, le-ltb}
use Rattle.logs.specs.Offers.{offer}
use Rattle.logs.proofs.Checking.{checked_codes, outside_value, outside_front}
use Rattle.recovery.proofs.collection.Collection.check.Goals as goal

pub returns-in-Some : goal.returns-in-Some
returns-in-Some g c =
    let order = (g.F.Ring.meaning c.args.self.now.field).order in
    let o = offer c.args.coefficients.now c.args.value c.args.weights.now in
    sym
    (checked_codes order c.args.self.now.table.width o c.if-coefficients-n.false c.if-weights-n.false (Some c.in-Some.position)
    (sym (outside_front order c.args.value c.in-Some.position c.args.coefficients.now (sym c.in-Some.ensures))))

-- the value is no code
pub returns-then-from-order : goal.returns-then-from-order
returns-then-from-order g c =
    let order = (g.F.Ring.meaning c.args.self.now.field).order in
    let o = offer c.args.coefficients.now c.args.value c.args.weights.now in
    let test : ltb c.args.value order ≡ false = le-ltb c.args.value order (omega (arith, c.order.ensures, c.from.ensures)) in
    sym
    (checked_codes order c.args.self.now.table.width o c.if-coefficients-n.false c.if-weights-n.false (Some c.args.self.now.table.width)
    (sym
    (outside_value order c.args.value c.args.coefficients.now (sym c.in_default.ensures)
    ∙ cond-false (ltb c.args.value order) _ _ test ∙ ap Some c.if-coefficients-n.false)))

pub returns : goal.returns
returns g c =
    let order = (g.F.Ring.meaning c.args.self.now.field).order in
    let o = offer c.args.coefficients.now c.args.value c.args.weights.now in
    let test : ltb c.args.value order ≡ true = lt-ltb c.args.value order (omega (arith, c.order.ensures, c.from.ensures)) in
    sym
    (checked_codes order c.args.self.now.table.width o c.if-coefficients-n.false c.if-weights-n.false None
    (sym
    (outside_value order c.args.value c.args.coefficients.now (sym c.in_default.ensures)
    ∙ cond-true (ltb c.args.value order) _ _ test)))
