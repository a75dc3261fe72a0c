-- Calls and events as data, and what a recording of them has.
use Rattle.std.specs.Prelude.{◌≡◌, ℕ, true, false, List, [], ◌∷◌, ◌++◌, map, reverse, vec_items}
use Rattle.algebra.specs.Meaning.{Meaning}
use Rattle.logs.specs.Offers.{Offer, offer, Log, offered, ranked}
use Rattle.logs.specs.Offers.{Event as LogEvent}
use Rattle.logs.specs.Promises.{Promises}
use Rattle.logs.specs.declared.refusal.Refusal.TheVariants as refusal
use Rattle.recovery.specs.declared.table.Table.{Table}
use Rattle.recovery.specs.Tables.{Holds}
use Rattle.recovery.specs.Widths.{is_width}
use Rattle.pass.specs.declared.recording.Call.{Call}
use Rattle.pass.specs.declared.recording.Call.TheVariants.{Offer as OfferCall, Rank}
use Rattle.pass.specs.declared.recording.Event.{Event}
use Rattle.pass.specs.declared.recording.Event.TheVariants.{Offered, Ranked}
use Rattle.pass.specs.declared.stop.Stop.{Stop}
use Rattle.pass.specs.declared.stop.Stop.TheVariants.{Refused, OutOfMemory}

-- what is asked of a collection: to take an offer, or its rank
pub data Asked : Type 0 where
  to_take : Offer → Asked
  for_rank : Asked

abbrev pub asked : Call → Asked
asked (OfferCall coefficients value weights) = to_take (offer (vec_items coefficients) value (vec_items weights))
asked Rank = for_rank

-- what was asked in a log, oldest first
abbrev pub asked_by : LogEvent → Asked
asked_by (offered o a ws) = to_take o
asked_by (ranked r) = for_rank

abbrev pub asked_in : Log → List Asked
asked_in [] = []
asked_in (e ∷ log) = asked_in log ++ (asked_by e ∷ [])

-- an event as the log has it
abbrev pub logged : Event → LogEvent
logged (Offered coefficients value before answer weights) =
    offered (offer (vec_items coefficients) value (vec_items before)) answer (vec_items weights)
logged (Ranked r) = ranked r

-- the log of these events, which stand oldest first
abbrev pub log_of : List Event → Log
log_of events = reverse (map logged events)

-- one call is made: the event has it, and comes next in each log that the table held
pub record Makes (m : Meaning) (call : Asked) (before after : Table) (event : Event) : Type 0 where
  pub asks : asked_by (logged event) ≡ call
  pub adds : (n : ℕ) (log : Log) → Holds m n log before → Holds m n (logged event ∷ log) after

-- calls are made, in their order
pub record MakesAll (m : Meaning) (calls : List Call) (before after : Table) (events : List Event) : Type 0 where
  pub asks : asked_in (log_of events) ≡ map asked calls
  pub adds : (n : ℕ) (log : Log) → Holds m n log before → Holds m n (log_of events ++ log) after

-- the events are those of just these calls on a fresh collection, the table holds their log, and the log keeps the promises
pub record Recorded (m : Meaning) (n : ℕ) (calls : List Call) (events : List Event) (table : Table) : Type 0 where
  pub width : is_width n ≡ true
  pub asks : asked_in (log_of events) ≡ map asked calls
  pub holds : Holds m n (log_of events) table
  pub promises : Promises m n (log_of events)

-- nothing is recorded: refused where the number of unknowns is no width; else memory ran out
abbrev pub Stopped : ℕ → Stop → Type 0
Stopped n (Refused r) = (is_width n ≡ false) × (r ≡ refusal.Width)
Stopped n (OutOfMemory e) = is_width n ≡ true
