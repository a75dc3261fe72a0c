-- Offers of equations, when they are refused, the log of a collection, and how an offer is judged after a log.
use Rattle.std.specs.Prelude.{◌≡◌, ℕ, cond, ◌≢◌, List, [], ◌∷◌, ◌++◌, length, replicate, Some, None, Ok, Err, Option, Result, ◌==◌}
use Rattle.algebra.specs.Meaning.{Meaning}
use Rattle.algebra.specs.Outside.{first_outside}
use Rattle.algebra.specs.Vectors.{Equation, Satisfies, Possible}
use Rattle.algebra.specs.Combinations.{Builds, value_sum}
use Rattle.logs.specs.declared.answer.Answer.{Answer}
use Rattle.logs.specs.declared.answer.Answer.TheVariants.{Kept, Implied, Contradiction}
use Rattle.logs.specs.declared.refusal.Refusal.{Refusal}
use Rattle.logs.specs.declared.refusal.Refusal.TheVariants as refusal

-- what an offer brings: coefficients, a value, and the content of the slice for weights
pub record Offer : Type 0 where
  pub coefficients : List ℕ
  pub value : ℕ
  pub weights : List ℕ

abbrev pub offer : List ℕ → ℕ → List ℕ → Offer
offer coefficients value weights = record { coefficients = coefficients; value = value; weights = weights }

abbrev pub equation : Offer → Equation
equation o = record { coefficients = o.coefficients; value = o.value }

-- the first number that is no code, if there is one, by its position
abbrev pub unless_outside : Option ℕ → Result (Unit {0}) Refusal
unless_outside None = Ok tt
unless_outside (Some position) = Err (refusal.Code position)

-- the coefficients have to be n, then the weights n, then all numbers codes
abbrev pub checked : ℕ → ℕ → Offer → Result (Unit {0}) Refusal
checked order n o =
    cond (length o.coefficients == n)
    (cond (length o.weights == n) (unless_outside (first_outside order 0 (o.coefficients ++ (o.value ∷ [])))) (Err refusal.Length))
    (Err refusal.Coefficients)

-- an offer with its answer and the weights after it, or a question for the rank with its answer
pub data Event : Type 0 where
  offered : Offer → Result Answer Refusal → List ℕ → Event
  ranked : ℕ → Event

-- the calls on one collection, the newest first
abbrev pub Log : Type 0
Log = List Event

abbrev pub when_kept : Result Answer Refusal → Equation → List Equation → List Equation
when_kept (Err r) e es = es
when_kept (Ok (Kept k)) e es = es ++ (e ∷ [])
when_kept (Ok Implied) e es = es
when_kept (Ok Contradiction) e es = es

abbrev pub when_accepted : Result Answer Refusal → Equation → List Equation → List Equation
when_accepted (Err r) e es = es
when_accepted (Ok (Kept k)) e es = es ++ (e ∷ [])
when_accepted (Ok Implied) e es = es ++ (e ∷ [])
when_accepted (Ok Contradiction) e es = es

-- the equations whose offers were answered kept, and those whose offers were answered kept or implied, oldest first
abbrev pub kept : Log → List Equation
kept [] = []
kept (offered o a ws ∷ log) = when_kept a (equation o) (kept log)
kept (ranked r ∷ log) = kept log

abbrev pub accepted : Log → List Equation
accepted [] = []
accepted (offered o a ws ∷ log) = when_accepted a (equation o) (accepted log)
accepted (ranked r ∷ log) = accepted log

-- the vectors that a log leaves possible: those that satisfy every accepted equation
abbrev pub PossibleAfter : Meaning → ℕ → Log → List ℕ → Type 0
PossibleAfter m n log = Possible m n (accepted log)

-- an offer that is not refused is judged by the vectors that are possible before it: its answer and the weights written
abbrev pub Judged : Meaning → ℕ → Log → Equation → Answer → List ℕ → Type 0
Judged m n log e (Kept k) ws =
    (k ≡ length (kept log)) × (ws ≡ replicate n 0)
    × ((v : List ℕ) × PossibleAfter m n log v × Satisfies m v e)
    × ((v : List ℕ) × PossibleAfter m n log v × (Satisfies m v e → ⊥))
Judged m n log e Implied ws =
    ((v : List ℕ) → PossibleAfter m n log v → Satisfies m v e)
    × Builds m n (kept log) ws e.coefficients × (value_sum m ws (kept log) ≡ e.value)
Judged m n log e Contradiction ws =
    ((v : List ℕ) → PossibleAfter m n log v → Satisfies m v e → ⊥)
    × Builds m n (kept log) ws e.coefficients × (value_sum m ws (kept log) ≢ e.value)

-- one offer whole: refused with the weights unchanged, or judged
abbrev pub Offered : Meaning → ℕ → Log → Offer → Result Answer Refusal → List ℕ → Type 0
Offered m n log o (Err r) ws = (checked m.order n o ≡ Err r) × (ws ≡ o.weights)
Offered m n log o (Ok a) ws = (checked m.order n o ≡ Ok tt) × Judged m n log (equation o) a ws
