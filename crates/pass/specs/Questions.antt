-- Questions and replies as the logs have them.
use Rattle.std.specs.Prelude.{ℕ, List, Result, replicate, vec_items}
use Rattle.algebra.specs.Meaning.{Meaning}
use Rattle.logs.specs.Offers.{Log}
use Rattle.logs.specs.declared.refusal.Refusal.{Refusal}
use Rattle.logs.specs.Questions.{solution, kernel, unknown, wrote, said, Answers}
use Rattle.logs.specs.Questions.{Question as LogQuestion, Reply as LogReply}
use Rattle.recovery.specs.declared.table.Table.{Table}
use Rattle.recovery.specs.Tables.{Holds}
use Rattle.pass.specs.declared.asking.Question.{Question}
use Rattle.pass.specs.declared.asking.Question.TheVariants.{Solution, Kernel, Unknown}
use Rattle.pass.specs.declared.asking.Reply.{Reply}
use Rattle.pass.specs.declared.asking.Reply.TheVariants.{Wrote, Said}

-- a question; a slice of n zeros is lent
abbrev pub questioned : ℕ → Question → LogQuestion
questioned n Solution = solution (replicate n 0)
questioned n (Kernel k) = kernel k (replicate n 0)
questioned n (Unknown j) = unknown j

abbrev pub replied : Reply → LogReply
replied (Wrote result content) = wrote result (vec_items content)
replied (Said result) = said result

-- the reply is an answer, after each log that the table holds
abbrev pub Replied : Meaning → Table → LogQuestion → Reply → Type 0
Replied m t question reply = (n : ℕ) (log : Log) → Holds m n log t → Answers m n log question (replied reply)

-- what a call on a slice gave, and left there, answers a question about the slice's content, after each log that the table holds
abbrev pub Writes : Meaning → Table → (List ℕ → LogQuestion) → List ℕ → Result (Unit {0}) Refusal → List ℕ → Type 0
Writes m t question before r after = (n : ℕ) (log : Log) → Holds m n log t → Answers m n log (question before) (wrote r after)
