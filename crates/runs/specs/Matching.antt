-- What it says of a run that a table is offered its steps, or asked its questions.
use Rattle.std.specs.Prelude.{ℕ, Bool, true, false, List, Decides}
use Rattle.algebra.specs.Meaning.{Meaning}
use Rattle.logs.specs.Offers.{Log}
use Rattle.logs.specs.Logs.{Made}
use Rattle.recovery.specs.declared.table.Table.{Table}
use Rattle.recovery.specs.Tables.{Holds}
use Rattle.runs.specs.declared.run.Step.{Step}
use Rattle.runs.specs.declared.run.Asked.{Asked}
use Rattle.runs.specs.Runs.{log_after, Replied}

-- true: the table holds the log after the steps; false: no such log is made
abbrev pub OffersMatch : Meaning → (n : ℕ) → List (Step n) → Table → Bool → Table → Type 0
OffersMatch m n steps before true after = (log : Log) → Holds m n log before → Holds m n (log_after n log steps) after
OffersMatch m n steps before false after = (log : Log) → Holds m n log before → Made m n (log_after n log steps) → ⊥

-- whether each question has its reply after the log that the table holds
abbrev pub RepliesMatch : Meaning → (n : ℕ) → List (Asked n) → Table → Bool → Type 0
RepliesMatch m n asked table r = (log : Log) → Holds m n log table → Decides r (Replied m n log asked)
