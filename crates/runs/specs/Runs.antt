-- Runs of a collection, and when they hold.
use Rattle.std.specs.Prelude.{ℕ, List, [], ◌∷◌, replicate, Ok}
use Rattle.algebra.specs.Meaning.{Meaning}
use Rattle.logs.specs.declared.answer.Answer.{Answer}
use Rattle.logs.specs.Offers.{offer, Event, Log, offered}
use Rattle.logs.specs.Logs.{Made}
use Rattle.logs.specs.Questions.{Question, solution, kernel, unknown, Reply, wrote, said, Answers}
use Rattle.runs.specs.declared.run.Step.{Step}
use Rattle.runs.specs.declared.run.Asked.{Asked}
use Rattle.runs.specs.declared.run.Asked.TheVariants.{Solution, Kernel, Unknown}

-- a step: coefficients, value, answer and weights
abbrev pub step : {n : ℕ} → List ℕ → ℕ → Answer → List ℕ → Step n
step coefficients value answer weights = record { coefficients = coefficients; value = value; answer = answer; weights = weights }

-- the event of a step: an offer with zeros for the weights
abbrev pub event : (n : ℕ) → Step n → Event
event n s = offered (offer s.coefficients s.value (replicate n 0)) (Ok s.answer) s.weights

-- the log after steps, of which the first comes first
abbrev pub log_after : (n : ℕ) → Log → List (Step n) → Log
log_after n log [] = log
log_after n log (s ∷ ss) = log_after n (event n s ∷ log) ss

-- what is asked, with zeros in the slice, and what is replied
abbrev pub question : (n : ℕ) → Asked n → Question
question n (Solution v) = solution (replicate n 0)
question n (Kernel k v) = kernel k (replicate n 0)
question n (Unknown j s) = unknown j

abbrev pub reply : (n : ℕ) → Asked n → Reply
reply n (Solution v) = wrote (Ok tt) v
reply n (Kernel k v) = wrote (Ok tt) v
reply n (Unknown j s) = said (Ok s)

-- each question has its reply after the log
abbrev pub Replied : Meaning → (n : ℕ) → Log → List (Asked n) → Type 0
Replied m n log [] = Unit {0}
Replied m n log (a ∷ rest) = Answers m n log (question n a) (reply n a) × Replied m n log rest

-- the steps make a log, after which the questions have their replies
abbrev pub Runs : Meaning → (n : ℕ) → List (Step n) → List (Asked n) → Type 0
Runs m n steps asked = Made m n (log_after n [] steps) × Replied m n (log_after n [] steps) asked
