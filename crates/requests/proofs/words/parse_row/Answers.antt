-- A word that is no number makes the line no row.
use Rattle.std.proofs.Common.{◌≡◌, None, sym, ◌∙◌, rules}
use Rattle.text.specs.Text.{words}
use Rattle.requests.specs.Numbers.{exactly}
use Rattle.requests.proofs.Adding.{adds_no_number, no_row}
use Rattle.requests.proofs.words.parse_row.Goals as goal

pub returns-in_err-number : goal.returns-in_err-number
returns-in_err-number c =
    let split = rw c.in_ok-word.ensures.ok_part at c.split_word.ensures in
    let none = sym c.parse_number.ensures ∙ c.in_err-number.ensures.ok_part in
    let bad : exactly c.args.columns (words c.args.line.text.now) ≡ None = no_row _ _ (sym c.loop.invariant ∙ adds_no_number _ _ _ _ _ _ c.loop-test.true split none) in
    search rules
