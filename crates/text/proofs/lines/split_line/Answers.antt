-- The first line is cut off at its line feed, if there is one.
use Rattle.std.proofs.Common.{◌≡◌, ◌+◌, ◌-◌, ◌<◌, length, take, drop, Some, None, arith, rules, tests, false-eqb}
use Rattle.std.specs.List.{position}
use Rattle.std.proofs.lemmas.Iterator.{YieldsList-from_slice}
use Rattle.std.proofs.lemmas.Iterator.Search.{position_from_yields_List}
use Rattle.std.proofs.lemmas.List.{take_all, drop_all, length-drop}
use Rattle.text.proofs.Cutting.{feed, cut_line, last_line}
use Rattle.text.proofs.lines.split_line.Goals as goal

pub returns-in-Some : goal.returns-in-Some
returns-in-Some c =
    let text = c.args.text.now in
    let end = c.in-Some.end in
    let at : Some end ≡ position feed text = position_from_yields_List _ _ _ (Some end) c.in-Some.ensures.ran (YieldsList-from_slice text cc) (λ x b q k. search (rules, tests)) in
    let some = c.in-Some.ensures.bound in
    let long : length (drop (end + 1) text) ≡ length text - (end + 1) = length-drop (end + 1) text in
    let whole : take (length text - (end + 1)) (drop (end + 1) text) ≡ drop (end + 1) text = take_all _ _ (omega arith) in
    (cut_line text end _ at whole, omega (arith, false-eqb _ 0 c.if-is_empty.ensures))

pub returns-in-None : goal.returns-in-None
returns-in-None c =
    let text = c.args.text.now in
    let some : 0 < length text = omega (arith, false-eqb _ 0 c.if-is_empty.ensures) in
    let none : None ≡ position feed text = position_from_yields_List _ _ _ None c.in-None.ensures.ran (YieldsList-from_slice text cc) (λ x b q k. search (rules, tests)) in
    let parts = c.split_at.ensures in
    (rw (parts.front, parts.back, take_all (length text) text (omega arith), drop_all (length text) text (omega arith)) (last_line text some none), omega (arith, parts.back_len))
