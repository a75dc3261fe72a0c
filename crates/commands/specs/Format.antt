-- The format of a pass: the field and the steps that the lines of a text name, and where a text does not fit.
use Rattle.std.specs.Prelude.{ℕ, cond, List, [], ◌∷◌, Some, None, Ok, Err, codes, Option, Result}
use Rattle.std.specs.Option.{option_map, ok_or}
use Rattle.std.specs.Str.{bytes_eq}
use Rattle.text.specs.Lines.{Lines, end, line, meaningful}
use Rattle.text.specs.Numbers.{number}
use Rattle.text.specs.Text.{lines, only}
use Rattle.commands.specs.declared.command.FieldName.{FieldName}
use Rattle.commands.specs.declared.command.FieldName.TheVariants.{Residues}
use Rattle.commands.specs.declared.fault.Expected.{Expected}
use Rattle.commands.specs.declared.fault.Expected.TheVariants as expected
use Rattle.text.specs.declared.fault.Fault.{Fault}
use Rattle.commands.specs.declared.keyword.Keyword.{Keyword}
use Rattle.commands.specs.declared.keyword.Keyword.TheVariants.{Field, Unknowns, Offer, Rank, Publish, Solution, Kernel, Symbol, Report}
use Rattle.commands.specs.declared.state.State.{State}
use Rattle.commands.specs.declared.state.State.TheVariants.{Start, Named}
use Rattle.commands.specs.Fields.{field_named}
use Rattle.commands.specs.Keywords.{keyword_named}
use Rattle.commands.specs.Order.{after, allowed, expected_in}
use Rattle.commands.specs.Steps.{Step, unknowns, offer, rank, publish, solution, kernel, symbol, report}

-- what a line says: the name of the field, or a step
pub data Saying : Type 0 where
  names : FieldName → Saying
  does : Step → Saying

-- a coefficient before those of an equation, if all are there
abbrev pub with_first : Option ℕ → Option (List ℕ × ℕ) → Option (List ℕ × ℕ)
with_first None o = None
with_first (Some n) None = None
with_first (Some n) (Some e) = Some (n ∷ e.0, e.1)

-- an equation: numbers up to `|`, the coefficients, and just one number after it, the value
abbrev pub equation : List (List ℕ) → Option (List ℕ × ℕ)
equation [] = None
equation (w ∷ ws) = cond (bytes_eq w (codes "|")) (option_map (λ v. ([], v)) (only number ws)) (with_first (number w) (equation ws))

abbrev pub offer_of : List ℕ × ℕ → Step
offer_of e = offer e.0 e.1

-- a command without arguments
abbrev pub bare : Keyword → Step → List (List ℕ) → Result Saying Expected
bare k c [] = Ok (does c)
bare k c (w ∷ ws) = Err (expected.Nothing k)

-- a command with one number
abbrev pub counted : Keyword → (ℕ → Step) → List (List ℕ) → Result Saying Expected
counted k c ws = ok_or (option_map (λ n. does (c n)) (only number ws)) (expected.Number k)

-- what a line says by its keyword and the words after it
abbrev pub arguments : Keyword → List (List ℕ) → Result Saying Expected
arguments Field ws = ok_or (option_map names (only field_named ws)) expected.FieldName
arguments Unknowns ws = counted Unknowns unknowns ws
arguments Offer ws = ok_or (option_map (λ e. does (offer_of e)) (equation ws)) expected.Equation
arguments Rank ws = bare Rank rank ws
arguments Publish ws = bare Publish publish ws
arguments Solution ws = bare Solution solution ws
arguments Kernel ws = counted Kernel kernel ws
arguments Symbol ws = counted Symbol symbol ws
arguments Report ws = bare Report report ws

-- what a line says by its keyword, if that is one and may stand here
abbrev pub said_by : State → Option Keyword → List (List ℕ) → Result Saying Expected
said_by s None ws = Err (expected_in s)
said_by s (Some k) ws = cond (allowed k s) (arguments k ws) (Err (expected_in s))

abbrev pub said : State → List (List ℕ) → Result Saying Expected
said s [] = Err (expected_in s)
said s (w ∷ ws) = said_by s (keyword_named w) ws

-- what is read from a text
pub record Reading : Type 0 where
  pub field : FieldName
  pub steps : List Step
  pub fault : Option (Fault Expected)

-- a step before a reading
abbrev pub preceded : Step → Reading → Reading
preceded c r = record { field = r.field; steps = c ∷ r.steps; fault = r.fault }

-- the reading that goes on from what the line n says, or ends there
abbrev pub goes_on : FieldName → ℕ → (State → FieldName → Reading) → Result Saying Expected → Reading
goes_on f n rest (Ok (names g)) = rest Named g
goes_on f n rest (Ok (does c)) = preceded c (rest (after c) f)
goes_on f n rest (Err e) = record { field = f; steps = []; fault = Some (record { line = n; expected = e }) }

-- the reading of lines from a state on, where the field is f unless a line names it
abbrev pub read_from : State → FieldName → Lines → Reading
read_from s f (end n) = record { field = f; steps = []; fault = None }
read_from s f (line n ws ls) = goes_on f n (λ t g. read_from t g ls) (said s ws)

-- the reading of a text; the field is that of residues unless it is named
abbrev pub reading : List ℕ → Reading
reading text = read_from Start Residues (meaningful 1 (lines text))
