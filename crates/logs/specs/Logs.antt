-- The logs that calls on one collection make.
use Rattle.std.specs.Prelude.{ℕ, List, [], ◌∷◌, length, Result}
use Rattle.algebra.specs.Meaning.{Meaning}
use Rattle.logs.specs.declared.refusal.Refusal.{Refusal}
use Rattle.logs.specs.declared.answer.Answer.{Answer}
use Rattle.logs.specs.Offers.{Offer, Log, offered, ranked, kept, Offered}

-- a log that is made over m on n unknowns: it starts with no call; an offer is answered as the log before it has it; the rank
-- is the number of kept equations
pub data Made (m : Meaning) (n : ℕ) : Log → Type 0 where
  opened : Made m n []
  offering : {log : Log} {o : Offer} {a : Result Answer Refusal} {ws : List ℕ} → Made m n log → Offered m n log o a ws → Made m n (offered o a ws ∷ log)
  ranking : {log : Log} → Made m n log → Made m n (ranked (length (kept log)) ∷ log)
