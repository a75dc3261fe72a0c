-- The table of a collection, and the log that it holds.
use Rattle.std.specs.Prelude.{◌≡◌, ℕ, ◌+◌, List, length, Ok, Err, Result, slice_set}
use Rattle.algebra.specs.Meaning.{Meaning}
use Rattle.logs.specs.declared.refusal.Refusal.{Refusal}
use Rattle.logs.specs.Logs.{Made}
use Rattle.logs.specs.Offers.{Log, kept}
use Rattle.recovery.specs.declared.table.Table.{Table}
use Rattle.recovery.specs.Cells.{Divided, Placed}
use Rattle.recovery.specs.Slots.{Slots}

-- the table is that of a collection over m on n unknowns whose log this is
pub record Holds (m : Meaning) (n : ℕ) (log : Log) (t : Table) : Type 0 where
  pub width : t.width ≡ n
  pub made : Made m n log
  pub count : t.count ≡ length (kept log)
  pub slots : Slots m n (kept log) t.slots

-- what is left of an equation, with its own weight set, is divided by its cell q and placed, and counted
pub record Keeps (m : Meaning) (q : ℕ) (left divided : List ℕ) (before after : Table) : Type 0 where
  pub width : after.width ≡ before.width
  pub count : after.count ≡ before.count + 1
  pub divides : Divided m q (slice_set left (before.width + 1 + before.count) 1) divided
  pub places : Placed m before.width q divided before.slots after.slots

-- whether a call answered or refused, and what it refused
abbrev pub verdict : {A : Type 0} → Result A Refusal → Result (Unit {0}) Refusal
verdict (Ok a) = Ok tt
verdict (Err r) = Err r
