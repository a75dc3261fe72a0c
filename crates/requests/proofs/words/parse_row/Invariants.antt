-- The numbers that are left follow those pushed so far.
use Rattle.std.proofs.Common.{◌≡◌, ◌-◌, vec_items}
use Rattle.text.specs.Text.{words}
use Rattle.requests.proofs.Adding.{Added}
use Rattle.requests.proofs.words.parse_row.Given as goal

abbrev pub invariant-loop : goal.invariant-loop
invariant-loop l = Added (vec_items l.cells) (l.columns - l.counter) (words l.rest) ≡ Added (vec_items l.initial.cells) l.columns (words l.line.text.now)
