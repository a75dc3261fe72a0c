use Rattle.std.proofs.Common.{◌+◌, ◌<◌, length, arith, sym, ap, ◌∙◌}
use Rattle.std.proofs.lemmas.List.{length_push}
use Rattle.windows.specs.Shown.{shown}
use Rattle.windows.proofs.RowSteps.{written_more, written_all}
use Rattle.windows.proofs.product.write_product.Goals as goal

pub loop-i-preserved : goal.loop-i-preserved
loop-i-preserved g c =
    let a = c.args.a.now in
    let steps = c.in-Some.ensures.steps in
    let some : 0 < a.columns = grind arith in
    let pushed = length_push c.loop-i.yielded (c.in-Some.i, c.in-Some.left) in
    record {
      count = steps.2 ∙ ap (λ k. k + 1) c.loop-i.invariant.count ∙ sym pushed;
      size = steps.0.0 ∙ c.loop-i.invariant.size;
      written =
          written_more (g.R.Ring.meaning c.args.r.now) (shown a) (shown c.args.b.now) a.fits some (length c.loop-i.yielded) _ c.loop-i.into
          c.loop-i.invariant.written (omega arith) c.in-Some.i _ c.in-Some.left.now _ c.product_row.new.into
          (steps.1 ∙ c.loop-i.invariant.count) pushed steps.0.1.0 (steps.0.1.1 ∙ c.loop-i.invariant.size) (omega arith) c.product_row.ensures;
    }

pub returns : goal.returns
returns g c =
    let a = c.args.a.now in
    let steps = c.in-None.ensures.steps in
    let some : 0 < a.columns = grind arith in
    let wide : 0 < c.args.b.now.columns = grind arith in
    written_all (g.R.Ring.meaning c.args.r.now) (shown a) (shown c.args.b.now) a.fits some (length c.loop-i.yielded) _ c.loop-i.into
    c.loop-i.invariant.written (omega arith) wide (omega (arith, steps.0.1.0, c.loop-i.invariant.size))
