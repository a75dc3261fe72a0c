-- The first word is cut off between the blanks before it and the next blank.
use Rattle.std.proofs.Common.{◌≡◌, ◌-◌, length, take, drop, Some, None, ◌∙◌, arith, rules, tests}
use Rattle.std.specs.List.{position_or_len, position}
use Rattle.std.proofs.lemmas.Iterator.{YieldsList-from_slice}
use Rattle.std.proofs.lemmas.Iterator.Search.{position_from_yields_List}
use Rattle.std.proofs.lemmas.List.{take_all, length-drop}
use Rattle.text.specs.Text.{blank}
use Rattle.text.proofs.Cutting.{inked, next_word, no_word, end_of}
use Rattle.text.proofs.words.split_word.Goals as goal

pub returns-in_err-start : goal.returns-in_err-start
returns-in_err-start c =
    let text = c.args.text.now in
    let none : None ≡ position inked text = position_from_yields_List _ _ _ None c.in_err-start.ensures.ran (YieldsList-from_slice text cc) (λ x b q k. search (rules, tests)) in
    rw c.from_residual.ensures (no_word text none)

pub returns : goal.returns
returns c =
    let text = c.args.text.now in
    let start = c.in_ok-start.start in
    let at : Some start ≡ position inked text = position_from_yields_List _ _ _ (Some start) c.in_ok-start.ensures.ran (YieldsList-from_slice text cc) (λ x b q k. search (rules, tests)) in
    let some = c.in_ok-start.ensures.bound in
    let long : length (drop start text) ≡ length text - start = length-drop start text in
    let whole : take (length text - start) (drop start text) ≡ drop start text = take_all _ _ (omega arith) in
    let rest = take (length text - start) (drop start text) in
    let found : c.position-end.result ≡ position blank rest = position_from_yields_List _ _ _ c.position-end.result c.position-end.ensures.ran (YieldsList-from_slice rest cc) (λ x b q k. search (rules, tests)) in
    let ends : c.unwrap_or.result ≡ position_or_len blank rest = c.unwrap_or.ensures ∙ end_of blank rest c.position-end.result found in
    rw (c.split_at.ensures.front, c.split_at.ensures.back, ends) (next_word text start rest at whole)
