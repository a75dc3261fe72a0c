-- The coefficients pushed so far come before those that are left.
use Rattle.std.proofs.Common.{◌≡◌, length, vec_items}
use Rattle.text.specs.Text.{words}
use Rattle.commands.specs.Format.{equation}
use Rattle.commands.proofs.Offering.{following}
use Rattle.commands.proofs.words.parse_offer.Given as goal

abbrev pub invariant-loop-word : goal.invariant-loop-word
invariant-loop-word l = following (vec_items l.coefficients) (equation (words l.rest)) ≡ equation (words l.text)

abbrev pub decreases-loop-word : goal.decreases-loop-word
decreases-loop-word l = length (words l.rest)
