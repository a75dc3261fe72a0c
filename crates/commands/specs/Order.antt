-- Which commands may follow one another: the field, once and first; equations and ranks of an open block; questions once it is published.
use Rattle.std.specs.Prelude.{Bool, true, false}
use Rattle.commands.specs.declared.fault.Expected.{Expected}
use Rattle.commands.specs.declared.fault.Expected.TheVariants as expected
use Rattle.commands.specs.declared.keyword.Keyword.{Keyword}
use Rattle.commands.specs.declared.keyword.Keyword.TheVariants.{Field, Unknowns, Offer, Rank, Publish, Solution, Kernel, Symbol, Report}
use Rattle.commands.specs.declared.state.State.{State}
use Rattle.commands.specs.declared.state.State.TheVariants.{Start, Named, Collecting, Published}
use Rattle.commands.specs.Steps.{Step, unknowns, offer, rank, publish, solution, kernel, symbol, report}

abbrev pub at_start : State → Bool
at_start Start = true
at_start Named = false
at_start Collecting = false
at_start Published = false

abbrev pub is_collecting : State → Bool
is_collecting Start = false
is_collecting Named = false
is_collecting Collecting = true
is_collecting Published = false

abbrev pub is_published : State → Bool
is_published Start = false
is_published Named = false
is_published Collecting = false
is_published Published = true

-- whether a command that begins with the word may stand here; a block may be opened anywhere
abbrev pub allowed : Keyword → State → Bool
allowed Field s = at_start s
allowed Unknowns s = true
allowed Offer s = is_collecting s
allowed Rank s = is_collecting s
allowed Publish s = is_collecting s
allowed Solution s = is_published s
allowed Kernel s = is_published s
allowed Symbol s = is_published s
allowed Report s = is_published s

-- what is expected of a line that may not stand here
abbrev pub expected_in : State → Expected
expected_in Start = expected.FieldOrUnknowns
expected_in Named = expected.Unknowns
expected_in Collecting = expected.Collecting
expected_in Published = expected.Published

-- how far the pass has come after a step
abbrev pub after : Step → State
after (unknowns n) = Collecting
after (offer cs v) = Collecting
after rank = Collecting
after publish = Published
after solution = Published
after (kernel k) = Published
after (symbol j) = Published
after report = Published
