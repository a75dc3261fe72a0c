-- What every log promises.
use Rattle.std.specs.Prelude.{◌≡◌, ℕ, ◌-◌, ◌^◌, ◌<◌, ◌≤◌, ◌≢◌, ◌↔◌, List, [], ◌∷◌, length, Ok, Result, slice_index_or}
use Rattle.algebra.specs.Matrix.{tabulate}
use Rattle.algebra.specs.Meaning.{Meaning, OneMeaning}
use Rattle.algebra.specs.Operations.{operations, dot}
use Rattle.logs.specs.declared.refusal.Refusal.{Refusal}
use Rattle.algebra.specs.Vectors.{Equation, row, entries, Vector, Satisfies}
use Rattle.algebra.specs.Combinations.{Builds, value_sum}
use Rattle.logs.specs.declared.answer.Answer.{Answer}
use Rattle.logs.specs.declared.answer.Answer.TheVariants.{Contradiction}
use Rattle.logs.specs.Offers.{Offer, equation, Log, offered, ranked, kept, accepted, PossibleAfter}
use Rattle.logs.specs.Questions.{Question, solution, kernel, Reply, wrote, Answers}
use Rattle.logs.specs.Logs.{Made}

-- so many vectors have a property: a list has each of them once, and no other
pub record Counted (P : List ℕ → Type 0) (count : ℕ) : Type 0 where
  pub all : List (List ℕ)
  pub many : length all ≡ count
  pub only : (i : ℕ) → i < length all → P (slice_index_or all i [])
  pub each : (v : List ℕ) → P v → (i : ℕ) × (i < length all) × (slice_index_or all i [] ≡ v)
  pub once : (i j : ℕ) → i < length all → j < length all → slice_index_or all i [] ≡ slice_index_or all j [] → i ≡ j

-- the published solution and kernel vectors of a log, asked for with some slice
pub record Basis (m : Meaning) (n : ℕ) (log : Log) : Type 0 where
  pub out : List ℕ
  pub start : List ℕ
  pub kernels : List (List ℕ)
  pub many : length kernels ≡ n - length (kept log)
  pub solves : Answers m n log (solution out) (wrote (Ok tt) start)
  pub spans : (k : ℕ) → k < length kernels → Answers m n log (kernel k out) (wrote (Ok tt) (slice_index_or kernels k []))

-- the solution plus the weighted kernel vectors
abbrev pub reached : (m : Meaning) (n : ℕ) (log : Log) → Basis m n log → List ℕ → List ℕ
reached m n log b ws =
    tabulate n (λ j. m.sum (entries b.start j) (dot (operations m) (length b.kernels) (entries ws) (λ x. entries (slice_index_or b.kernels x []) j)))

-- the equation stands somewhere in the list
abbrev pub Occurs : Equation → List Equation → Type 0
Occurs e es = (i : ℕ) × (i < length es) × (row es i ≡ e)

-- two logs leave the same vectors possible
abbrev pub LeaveTheSame : Meaning → Log → Meaning → Log → ℕ → Type 0
LeaveTheSame m log k other n = (v : List ℕ) → PossibleAfter m n log v ↔ PossibleAfter k n other v

-- two logs answer each published question alike
abbrev pub AnswerAlike : Meaning → Log → Meaning → Log → ℕ → Type 0
AnswerAlike m log k other n =
    (question : Question) (a b : Reply) → Answers m n log question a → Answers k n other question b → a ≡ b

pub record Promises (m : Meaning) (n : ℕ) (log : Log) : Type 0 where
  -- the number of possible vectors is the order to the power of n less the rank answered next
  pub counted : (r : ℕ) → Made m n (ranked r ∷ log) → (r ≤ n) × Counted (PossibleAfter m n log) (m.order ^ (n - r))
  -- each published question has an answer, and the solution and the kernel vectors reach possible vectors only, and each by
  -- one choice of weights
  pub answered : (question : Question) → (reply : Reply) × Answers m n log question reply
  pub basis : Basis m n log
  pub only : (b : Basis m n log) (ws : List ℕ) → Vector m (n - length (kept log)) ws → PossibleAfter m n log (reached m n log b ws)
  pub each : (b : Basis m n log) (v : List ℕ) → PossibleAfter m n log v
      → (ws : List ℕ) × Vector m (n - length (kept log)) ws × (reached m n log b ws ≡ v)
      × ((us : List ℕ) → Vector m (n - length (kept log)) us → reached m n log b us ≡ v → us ≡ ws)
  -- an offer made next and not refused is a contradiction exactly when no possible vector satisfies it
  pub refuted : (o : Offer) (a : Answer) (ws : List ℕ) → Made m n (offered o (Ok a) ws ∷ log)
      → (a ≡ Contradiction) ↔ ((v : List ℕ) → PossibleAfter m n log v → Satisfies m v (equation o) → ⊥)
  -- and then its weights build its coefficients from the kept equations, with another value
  pub missed : (o : Offer) (ws : List ℕ) → Made m n (offered o (Ok Contradiction) ws ∷ log)
      → Builds m n (kept log) ws o.coefficients × (value_sum m ws (kept log) ≢ o.value)
  -- no answer to an offer is left to choice
  pub settled : (o : Offer) (a b : Result Answer Refusal) (ws us : List ℕ)
      → Made m n (offered o a ws ∷ log) → Made m n (offered o b us ∷ log) → (a ≡ b) × (ws ≡ us)
  -- nor to a published question; and any other log over a field of one meaning that leaves the same vectors answers alike
  pub agreed : (k : Meaning) → OneMeaning m k → (other : Log) → Made k n other → LeaveTheSame m log k other n → AnswerAlike m log k other n
  -- the order of arrival does not matter: a log that accepted the same equations leaves the same vectors
  pub ordered : (other : Log)
      → ((e : Equation) → Occurs e (accepted log) → Occurs e (accepted other)) → ((e : Equation) → Occurs e (accepted other) → Occurs e (accepted log))
      → LeaveTheSame m log m other n

-- every log over a field keeps the promises
abbrev pub Promised : Meaning → Type 0
Promised m = (n : ℕ) (log : Log) → Made m n log → Promises m n log

-- two servers: logs on equally many unknowns, over fields of one meaning, that leave the same vectors answer alike
abbrev pub Agree : Meaning → Meaning → Type 0
Agree m k =
    OneMeaning m k → (n : ℕ) (log other : Log) → Made m n log → Made k n other → LeaveTheSame m log k other n → AnswerAlike m log k other n
