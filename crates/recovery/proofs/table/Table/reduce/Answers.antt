use Rattle.std.proofs.Common.{◌≡◌, [], ◌∷◌, length, refl, ap, ◌∙◌, subst, arith, rules, length-append}
use Rattle.std.proofs.lemmas.Slice.Zip.{zip_turn, zip_end}
use Rattle.algebra.specs.Multiples.{MultipleAdded}
use Rattle.algebra.specs.Vectors.{entries}
use Rattle.recovery.specs.Cells.{cell, taken_out}
use Rattle.recovery.proofs.Steps.{reduce_added, reduce_passed}
use Rattle.recovery.proofs.table.Table.reduce.Goals as goal

pub loop-c-preserved-then-by-ne0 : goal.loop-c-preserved-then-by-ne0
loop-c-preserved-then-by-ne0 g c =
    let m = g.R.Ring.meaning c.args.r.now in
    let slots = c.args.self.now.slots in
    let cs = c.args.coefficients.now in
    let i = length c.loop-c.yielded in
    let at = zip_turn cs slots c.loop-c.yielded c.into_iter-c-iterator.result c.loop-c.c-iterator c.next.new.self c.next.result
    (search rules) (search rules) c.loop-c.yielded_by (c.in-Some.c, c.in-Some.slot) c.in-Some.is c.next.ensures.steps in
    λ k l.
    rw (length-append c.loop-c.yielded ((c.in-Some.c, c.in-Some.slot) ∷ []))
    (reduce_added m (entries cs) (entries c.args.left.now) slots c.loop-c.left c.add_multiple.new.onto c.negative-by.result i
    (c.negative-by.ensures.value ∙ ap m.negative (at.2 0)) c.loop-c.invariant c.if-by-ne0.true
    (subst (λ s. MultipleAdded m c.loop-c.left c.negative-by.result s c.add_multiple.new.onto) (at.3 []) c.add_multiple.ensures)
    (search rules) k (omega (arith, c.add_multiple.auto.onto)))

pub loop-c-preserved : goal.loop-c-preserved
loop-c-preserved g c =
    let m = g.R.Ring.meaning c.args.r.now in
    let slots = c.args.self.now.slots in
    let cs = c.args.coefficients.now in
    let i = length c.loop-c.yielded in
    let at = zip_turn cs slots c.loop-c.yielded c.into_iter-c-iterator.result c.loop-c.c-iterator c.next.new.self c.next.result
    (search rules) (search rules) c.loop-c.yielded_by (c.in-Some.c, c.in-Some.slot) c.in-Some.is c.next.ensures.steps in
    λ k l.
    rw (length-append c.loop-c.yielded ((c.in-Some.c, c.in-Some.slot) ∷ []))
    (reduce_passed m (entries cs) (entries c.args.left.now) slots c.loop-c.left c.loop-c.left c.negative-by.result i
    (c.negative-by.ensures.value ∙ ap m.negative (at.2 0)) c.loop-c.invariant c.if-by-ne0.false refl k l)

pub returns : goal.returns
returns g c =
    let slots = c.args.self.now.slots in
    let cs = c.args.coefficients.now in
    let end = zip_end cs slots c.loop-c.yielded c.into_iter-c-iterator.result c.loop-c.c-iterator c.next.new.self c.next.result
    (search rules) (search rules) c.loop-c.yielded_by c.in-None.is c.next.ensures.steps in
    let many : length slots ≡ 64 = search rules in
    let all : length c.loop-c.yielded ≡ length cs = omega (arith, end, many, c.requires.few, c.args.self.now.narrow) in
    λ k l.
    subst (λ n. entries c.loop-c.left k ≡ taken_out (g.R.Ring.meaning c.args.r.now) (entries cs) (λ p. cell slots p k) (entries c.args.left.now k) n)
    all (c.loop-c.invariant k (omega (arith, c.loop-c.auto.left)))
