-- The refusals of calls on windows: the number and the text of each.
use Rattle.std.specs.Prelude.{ℕ, List, [], ◌++◌, codes, decimal}
use Rattle.windows.specs.declared.refusal.Refusal.{Refusal}
use Rattle.windows.specs.declared.refusal.Refusal.TheVariants.{Side, Length, Fit, Code}

abbrev pub number : Refusal → ℕ
number Side = 7
number Length = 8
number Fit = 9
number (Code window position) = 4

-- where a number that is no code stands
abbrev pub place_text : Refusal → List ℕ
place_text (Code window position) = codes " window " ++ decimal window ++ codes " position " ++ decimal position
place_text Side = []
place_text Length = []
place_text Fit = []

-- `refused` with the number, and with the place if there is one
abbrev pub refusal_text : Refusal → List ℕ
refusal_text r = codes "refused " ++ decimal (number r) ++ place_text r
