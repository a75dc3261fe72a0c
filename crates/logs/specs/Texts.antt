-- The text of refusals, answers and symbols.
use Rattle.std.specs.Prelude.{ℕ, List, ◌++◌, Some, None, codes, decimal, Option}
use Rattle.logs.specs.declared.answer.Answer.{Answer}
use Rattle.logs.specs.declared.answer.Answer.TheVariants.{Kept, Implied, Contradiction}
use Rattle.logs.specs.declared.answer.Symbol.{Symbol}
use Rattle.logs.specs.declared.answer.Symbol.TheVariants.{Known, Open}
use Rattle.logs.specs.declared.refusal.Refusal.{Refusal}
use Rattle.logs.specs.Refusals.{number, position}

abbrev pub refused_text : ℕ → Option ℕ → List ℕ
refused_text number None = codes "refused " ++ decimal number
refused_text number (Some position) = codes "refused " ++ (decimal number ++ (codes " position " ++ decimal position))

-- `refused`, the number and the position
abbrev pub refusal_text : Refusal → List ℕ
refusal_text r = refused_text (number r) (position r)

-- how many equations were kept before it, or why it was not kept
abbrev pub answer_text : Answer → List ℕ
answer_text (Kept before) = codes "kept " ++ decimal before
answer_text Implied = codes "implied"
answer_text Contradiction = codes "contradiction"

-- the code, or the number of the first kernel vector that is not 0 there
abbrev pub symbol_text : Symbol → List ℕ
symbol_text (Known code) = codes "known " ++ decimal code
symbol_text (Open k) = codes "open " ++ decimal k
