-- What a command does.
use Rattle.std.specs.Prelude.{ℕ, List, vec_items}
use Rattle.commands.specs.declared.command.Command.{Command}
use Rattle.commands.specs.declared.command.Command.TheVariants.{Unknowns, Offer, Rank, Publish, Solution, Kernel, Symbol, Report}

-- one step of a pass
pub data Step : Type 0 where
  unknowns : ℕ → Step
  offer : List ℕ → ℕ → Step
  rank : Step
  publish : Step
  solution : Step
  kernel : ℕ → Step
  symbol : ℕ → Step
  report : Step

abbrev pub step_of : Command → Step
step_of (Unknowns n) = unknowns n
step_of (Offer cs v) = offer (vec_items cs) v
step_of Rank = rank
step_of Publish = publish
step_of Solution = solution
step_of (Kernel k) = kernel k
step_of (Symbol j) = symbol j
step_of Report = report
