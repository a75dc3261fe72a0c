-- The event has the offer as it was made, and the weights as the call left them.
use Rattle.std.proofs.Common.{◌≡◌, length, vec_items, ap, arith}
use Rattle.std.specs.List.{each_same}
use Rattle.std.proofs.lemmas.List.{with_items_is}
use Rattle.logs.specs.Offers.{offer}
use Rattle.pass.specs.Recordings.{to_take}
use Rattle.pass.proofs.recording.make_offer.Goals as goal

pub returns : goal.returns
returns g c =
    let m = g.F.Ring.meaning c.args.collection.now.field in
    let cs = vec_items c.args.coefficients in
    let v = c.args.value in
    let a = c.offer-answer.result in
    let same : vec_items c.in_ok-before.before ≡ vec_items c.args.weights = each_same _ _ c.in_ok-before.ensures.cases.0 in
    let full : length c.offer-answer.new.weights ≡ c.args.weights.len =
    omega (arith, c.offer-answer.auto.weights, c.deref_mut.ensures.len) in
    let weights = with_items_is c.args.weights c.offer-answer.new.weights full in
    record {
      field = c.offer-answer.ensures.field;
      made = record {
        asks = ap (λ ws. to_take (offer cs v ws)) same;
        adds = λ n log h.
            simp (weights, same) (simp (c.deref.ensures.value, c.deref_mut.ensures.value) at (c.offer-answer.ensures.log n log h));
      };
    }
