use Rattle.std.proofs.Common.{eqb, refl, sym, ap, ◌∙◌, arith, rules, tests}
use Rattle.std.specs.List.{slice_get}
use Rattle.std.proofs.lemmas.Iterator.{YieldsList-from_range}
use Rattle.std.proofs.lemmas.Iterator.Adapters.{option_map_id}
use Rattle.std.proofs.lemmas.Iterator.Consumers.{YieldsList-at, YieldsList-from_filter, nth_from_yields_List}
use Rattle.recovery.specs.Cells.{cell}
use Rattle.recovery.proofs.FreeColumns.{among_filter}
use Rattle.recovery.proofs.table.Table.free_column.Goals as goal

pub returns-clause-here : goal.returns-clause-here
returns-clause-here c =
    let t = c.args.self.now in
    sym (option_map_id c.nth.result)
    ∙ nth_from_yields_List c.nth.result c.nth.new.self c.args.k c.nth.ensures.ran
    (YieldsList-from_filter _ (λ i. eqb (cell t.slots i i) 0) (YieldsList-at c.filter.ensures.source (YieldsList-from_range 0 t.width t.width refl (omega arith)))
    c.filter.ensures.closure (λ x r q k. search (rules, tests)))
    ∙ ap (λ s. slice_get s c.args.k) (among_filter (λ i. eqb (cell t.slots i i) 0) 0 t.width)
