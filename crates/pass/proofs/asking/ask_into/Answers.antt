-- The slice that is lent holds zeros, and what it holds after the call is what was written.
use Rattle.std.proofs.Common.{◌≡◌, length, refl, ap, ◌∙◌, arith}
use Rattle.std.proofs.lemmas.List.{with_items_is}
use Rattle.logs.specs.Questions.{wrote}
use Rattle.pass.proofs.asking.ask_into.Goals as goal

pub returns : goal.returns
returns g c =
    let zeros = c.deref_mut.ensures.value ∙ c.in_ok-content.ensures.items_if_clones_equal (λ y e. e) in
    let full : length c.ask-result.new.arg2 ≡ c.in_ok-content.content.len = omega (arith, c.ask-result.auto.arg2, c.deref_mut.ensures.len) in (
      c.ask-result.result,
      c.ask-result.new.arg2,
      ap (wrote c.ask-result.result) (with_items_is c.in_ok-content.content c.ask-result.new.arg2 full),
      record { shown = _; shows = zeros; left = _; met = c.ask-result.ensures; leaves = refl },
    )
