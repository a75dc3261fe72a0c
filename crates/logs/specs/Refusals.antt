-- The refusals of calls on a collection: the number of each, and the position that it carries.
use Rattle.std.specs.Prelude.{ℕ, Some, None, Option}
use Rattle.logs.specs.declared.refusal.Refusal.{Refusal}
use Rattle.logs.specs.declared.refusal.Refusal.TheVariants.{Width, Coefficients, Length, Code, Kernel, Unknown}

abbrev pub number : Refusal → ℕ
number Width = 1
number Coefficients = 2
number Length = 3
number (Code p) = 4
number Kernel = 5
number Unknown = 6

abbrev pub position : Refusal → Option ℕ
position Width = None
position Coefficients = None
position Length = None
position (Code p) = Some p
position Kernel = None
position Unknown = None
