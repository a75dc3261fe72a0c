-- What a comparison of two published forms finds.
use Rattle.std.specs.Prelude.{◌≡◌, ℕ, ◌<◌, ◌≢◌, ◌↔◌, List, length, take, slice_index_or, Some, None, Option}
use Rattle.std.specs.List.{All}
use Rattle.algebra.specs.Meaning.{Meaning, OneMeaning}
use Rattle.logs.specs.Offers.{Log}
use Rattle.logs.specs.Promises.{LeaveTheSame, AnswerAlike}
use Rattle.logs.specs.Questions.{Answers}
use Rattle.logs.specs.Questions.{Reply as LogReply}
use Rattle.recovery.specs.declared.table.Table.{Table}
use Rattle.recovery.specs.Tables.{Holds}
use Rattle.pass.specs.declared.asking.Question.{Question}
use Rattle.pass.specs.declared.asking.Question.TheVariants.{Solution, Kernel, Unknown}
use Rattle.pass.specs.declared.comparison.Difference.{Difference}
use Rattle.pass.specs.Questions.{questioned, replied, Replied}

-- the tables s over m and t over k, asked with slices of n zeros
module _ (m k : Meaning) (n : ℕ) (s t : Table) where
  -- whatever logs the tables hold, the question is answered alike
  pub record Alike (q : Question) : Type 0 where
    pub same : (p l : ℕ) (log other : Log) → Holds m p log s → Holds k l other t
        → (a b : LogReply) → Answers m p log (questioned n q) a → Answers k l other (questioned n q) b → a ≡ b

  -- the replies are answers to the question, and not the same
  pub record Differs (d : Difference) : Type 0 where
    pub first : Replied m s (questioned n d.question) d.first
    pub second : Replied k t (questioned n d.question) d.second
    pub apart : replied d.first ≢ replied d.second

  -- the first of some questions
  abbrev pub FirstAmong : List Question → Option Difference → Type 0
  FirstAmong asked None = All Alike asked
  FirstAmong asked (Some d) =
      (i : ℕ) × (i < length asked) × (d.question ≡ slice_index_or asked i d.question) × Differs d × All Alike (take i asked)

  -- the question is one of those asked, and those before it are answered alike: the solution, then the kernel vectors, then the
  -- unknowns
  abbrev pub FirstAt : Question → Type 0
  FirstAt Solution = Unit {0}
  FirstAt (Kernel i) = (i < n) × Alike Solution × ((x : ℕ) → x < i → Alike (Kernel x))
  FirstAt (Unknown i) = (i < n) × Alike Solution × ((x : ℕ) → x < n → Alike (Kernel x)) × ((x : ℕ) → x < i → Alike (Unknown x))

  -- the first of all questions asked
  abbrev pub First : Option Difference → Type 0
  First None = Alike Solution × ((i : ℕ) → i < n → Alike (Kernel i)) × ((i : ℕ) → i < n → Alike (Unknown i))
  First (Some d) = Differs d × FirstAt d.question

  pub record Compared (d : Option Difference) : Type 0 where
    pub first : First d
    -- where n is the number of unknowns of both, there is none exactly when all questions are answered alike
    pub alike : (log other : Log) → Holds m n log s → Holds k n other t → (d ≡ None) ↔ AnswerAlike m log k other n
    -- so there is none where the logs leave the same vectors possible, over fields of one meaning
    pub agree : (log other : Log) → Holds m n log s → Holds k n other t → OneMeaning m k → LeaveTheSame m log k other n → d ≡ None
