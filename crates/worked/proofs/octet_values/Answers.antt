use Rattle.std.proofs.Common.{Some, arith}
use Rattle.std.proofs.lemmas.Grind.{common_steps}
use Rattle.worked.proofs.Lines.{all_hold, product_answered, inverse_answered}
use Rattle.worked.proofs.octet_values.Goals as goal

pub returns : goal.returns
returns g c is =
    let m = g.F.Ring.meaning c.args.f.now in
    let l = g.met.F.Ring.laws c.args.f.now in
    let lines = all_hold.1.1.1.1 in
    let first = product_answered m l is 128 2 29 c.product.result lines.0 c.product.ensures.value in
    let second = product_answered m l is 3 7 9 c.product-2.result lines.1.0 c.product-2.ensures.value in
    let third = product_answered m l is 3 3 5 c.product-3.result lines.1.1.0 c.product-3.ensures.value in
    let fourth = inverse_answered m l is 2 (Some 142) c.inverse.result lines.1.1.1.0 c.inverse.ensures in
    grind (arith, common_steps)
