use Rattle.std.proofs.Common.{eqb, refl, ap, ◌∙◌, arith, rules, tests}
use Rattle.std.specs.List.{position}
use Rattle.std.proofs.lemmas.Iterator.{YieldsList-from_range}
use Rattle.std.proofs.lemmas.Iterator.Consumers.{YieldsList-at, YieldsList-from_filter}
use Rattle.std.proofs.lemmas.Iterator.Search.{position_from_yields_List}
use Rattle.recovery.specs.Cells.{cell}
use Rattle.recovery.proofs.FreeColumns.{among_filter, moves, first_moved}
use Rattle.recovery.proofs.table.Table.first_moving.Goals as goal

pub returns : goal.returns
returns c =
    let t = c.args.self.now in
    first_moved t.slots t.width c.args.j c.position.result
    (position_from_yields_List (moves t.slots c.args.j) _ _ c.position.result c.position.ensures.ran
    (YieldsList-from_filter _ (λ i. eqb (cell t.slots i i) 0) (YieldsList-at c.filter.ensures.source (YieldsList-from_range 0 t.width t.width refl (omega arith)))
    c.filter.ensures.closure (λ x r q k. search (rules, tests)))
    (λ x b q k. search (rules, tests))
    ∙ ap (position (moves t.slots c.args.j)) (among_filter (λ i. eqb (cell t.slots i i) 0) 0 t.width))
