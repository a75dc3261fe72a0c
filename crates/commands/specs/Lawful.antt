-- The steps that a text can name: in order, and with numbers below 2^32.
use Rattle.std.specs.Prelude.{◌≡◌, ℕ, ◌^◌, ◌<◌, true, List, [], ◌∷◌}
use Rattle.std.specs.List.{AllByRecursion}
use Rattle.commands.specs.declared.state.State.{State}
use Rattle.commands.specs.declared.state.State.TheVariants.{Start}
use Rattle.commands.specs.Keywords.{keyword_of}
use Rattle.commands.specs.Order.{after, allowed}
use Rattle.commands.specs.Steps.{Step, unknowns, offer, rank, publish, solution, kernel, symbol, report}

-- each step may stand where it stands, from a state on
abbrev pub InOrder : State → List Step → Type 0
InOrder s [] = Unit {0}
InOrder s (c ∷ cs) = (allowed (keyword_of c) s ≡ true) × InOrder (after c) cs

abbrev pub Small : ℕ → Type 0
Small n = n < 2 ^ 32

abbrev pub Fits : Step → Type 0
Fits (unknowns n) = Small n
Fits (offer cs v) = AllByRecursion Small cs × Small v
Fits rank = Unit {0}
Fits publish = Unit {0}
Fits solution = Unit {0}
Fits (kernel k) = Small k
Fits (symbol j) = Small j
Fits report = Unit {0}

abbrev pub Lawful : List Step → Type 0
Lawful cs = InOrder Start cs × AllByRecursion Fits cs
