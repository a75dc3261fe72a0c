-- The questions asked tell of all.
use Rattle.std.proofs.Common.{Some, rules, tests, arith}
use Rattle.std.proofs.lemmas.Iterator.{YieldsList-from_range, YieldsList-from_map}
use Rattle.std.proofs.lemmas.Iterator.Adapters.{YieldsList-from_once}
use Rattle.std.proofs.lemmas.Iterator.Consumers.{YieldsList-at, YieldsList-from_chain}
use Rattle.std.proofs.lemmas.Result.{IfOk-weaker}
use Rattle.linear.specs.Field.{FieldLaws}
use Rattle.pass.specs.declared.asking.Question.TheVariants.{Solution, Kernel, Unknown}
use Rattle.pass.proofs.Comparing.{by_road, compared}
use Rattle.pass.proofs.comparison.compare.Goals as goal

pub returns : goal.returns
returns g c =
    let f = c.args.a.now.field in
    let h = c.args.b.now.field in
    let n = c.args.unknowns in
    let m = g.F.Ring.meaning f in
    let k = g.G.Ring.meaning h in
    let lm : FieldLaws m = record { ring = g.met.F.Ring.laws f; inverses = g.met.F.Field.inverses f } in
    let lk : FieldLaws k = record { ring = g.met.G.Ring.laws h; inverses = g.met.G.Field.inverses h } in
    let once = YieldsList-from_once (Some Solution) c.once.ensures.item in
    IfOk-weaker c.first_difference.result _ _ (compared m k lm lk n c.args.a.now.table c.args.b.now.table)
    (by_road c.first_difference.ensures _
    (YieldsList-from_chain
    (YieldsList-at c.chain-questions.ensures.first
    (YieldsList-from_chain (YieldsList-at c.chain.ensures.first once)
    (YieldsList-at c.chain.ensures.second
    (YieldsList-from_map _ Kernel (YieldsList-from_range 0 n n c.map-kernels.ensures.source (omega arith)) c.map-kernels.ensures.closure
    (λ x r q k. search (rules, tests)))) c.chain.ensures.first_done c.chain.ensures.second_done))
    (YieldsList-at c.chain-questions.ensures.second
    (YieldsList-from_map _ Unknown (YieldsList-from_range 0 n n c.map-each_unknown.ensures.source (omega arith)) c.map-each_unknown.ensures.closure
    (λ x r q k. search (rules, tests)))) c.chain-questions.ensures.first_done c.chain-questions.ensures.second_done))
