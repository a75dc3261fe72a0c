-- What a collection answers, compared with the steps and the questions of a run.
use Rattle.std.proofs.Common.{◌≡◌, ℕ, ◌+◌, ◌<◌, Bool, true, false, ◌&&◌, List, [], ◌∷◌, length, get_or, drop, replicate, is_ok, Ok, Err, Decides, Result, sym, refl, ap, ◌∙◌, subst, ap₂}
use Rattle.std.proofs.lemmas.List.{at_drop_more}
use Rattle.std.proofs.lemmas.Bool.{false≢true}
use Rattle.std.proofs.lemmas.Bool.Decides.{Decides-like, Decides-at, Decides-and}
use Rattle.algebra.specs.Meaning.{Meaning}
use Rattle.linear.specs.Field.{FieldLaws}
use Rattle.logs.specs.declared.answer.Answer.{Answer}
use Rattle.logs.specs.declared.answer.Symbol.{Symbol}
use Rattle.logs.specs.declared.refusal.Refusal.{Refusal}
use Rattle.logs.specs.Offers.{offer, Log, offered}
use Rattle.logs.specs.Logs.{Made}
use Rattle.logs.specs.Questions.{Reply, wrote, said, Answers}
use Rattle.logs.proofs.Histories.{made_log}
use Rattle.logs.proofs.Settling.{log_settled}
use Rattle.logs.proofs.Replying.{one_reply}
use Rattle.recovery.specs.declared.table.Table.{Table}
use Rattle.recovery.specs.Tables.{Holds}
use Rattle.recovery.specs.Widths.{is_width}
use Rattle.runs.specs.declared.run.Step.{Step}
use Rattle.runs.specs.declared.run.Asked.{Asked}
use Rattle.runs.specs.Runs.{event, log_after, question, reply, Replied, Runs}
use Rattle.runs.specs.Matching.{OffersMatch, RepliesMatch}

-- whether what is said, or written, is as expected
pub said_decides : (r : Result Symbol Refusal) (s : Symbol) (b : Bool) → Decides b (r ≡ Ok s) → Decides b (said r ≡ said (Ok s))
said_decides r s b d = Decides-like b (ap said) (λ e. cc) d

pub wrote_decides : (r : Result (Unit {0}) Refusal) (out v : List ℕ) (ok same : Bool) → ok ≡ is_ok r → Decides same (out ≡ v)
    → Decides (ok && same) (wrote r out ≡ wrote (Ok tt) v)
wrote_decides r out v ok same e d =
    Decides-like (ok && same) (λ p. ap₂ wrote p.0 p.1) (λ p. ((cc), (cc))) (Decides-and ok same (Decides-at ok (is_ok r) e (answered r)) d)
  where
    answered : (r : Result (Unit {0}) Refusal) → Decides (is_ok r) (r ≡ Ok tt)
    answered (Ok u) = ((λ e. refl), (λ e. refl))
    answered (Err x) = ((λ e. cc), (λ e. cc))

-- one offer, and one question
module _ (m : Meaning) (laws : FieldLaws m) (n : ℕ) where
  pub offer_matched : (s : Step n) (before after : Table) (a : Result Answer Refusal) (ws : List ℕ) (r : Bool)
      → ((log : Log) → Holds m n log before → Holds m n (offered (offer s.coefficients s.value (replicate n 0)) a ws ∷ log) after)
      → Decides r ((a ≡ Ok s.answer) × (ws ≡ s.weights)) → OffersMatch m n (s ∷ []) before r after
  offer_matched s before after a ws true step d = λ log h.
      let same = d.0 refl in
      subst (λ e. Holds m n (e ∷ log) after) (ap₂ (offered (offer s.coefficients s.value (replicate n 0))) same.0 same.1) (step log h)
  offer_matched s before after a ws false step d = λ log h md.
      false≢true (d.1 (log_settled m laws n log h.made _ a (Ok s.answer) ws s.weights (step log h).made md))

  pub reply_matched : (a b : Asked n) → a ≡ b → (table : Table) (found : Reply) (r : Bool)
      → ((log : Log) → Holds m n log table → Answers m n log (question n b) found) → Decides r (found ≡ reply n b)
      → RepliesMatch m n (a ∷ []) table r
  reply_matched a b e table found r h d log held =
      subst (λ x. Decides r (Replied m n log (x ∷ []))) (sym e)
      (Decides-like r (λ k. (subst (Answers m n log (question n b)) k (h log held), tt))
      (λ k. one_reply m laws n log held.made (question n b) found (reply n b) (h log held) k.0) d)

-- what is left of a list begins with the element at the index
dropped_next : {X : Type 0} (P : List X → Type 0) (xs : List X) (x : X) (i : ℕ) → i < length xs → x ≡ get_or xs i x → P (drop i xs) → P (x ∷ drop (i + 1) xs)
dropped_next P xs x i l e = subst P (at_drop_more (λ ys. ys) xs i x l ∙ ap (λ y. y ∷ drop (i + 1) xs) (sym e))

-- one offer after another
module _ (m : Meaning) (n : ℕ) where
  -- the logs before some steps are made
  made_before : (rest : List (Step n)) (log : Log) → Made m n (log_after n log rest) → Made m n log
  made_before [] log md = md
  made_before (s ∷ rest) log md = made_log (made_before rest (event n s ∷ log) md)

  -- the steps before the rest match
  abbrev pub Offering : List (Step n) → Table → List (Step n) → Table → Type 0
  Offering steps before rest now =
      (log : Log) → Holds m n log before → (mid : Log) × Holds m n mid now × (log_after n mid rest ≡ log_after n log steps)

  module _ (steps : List (Step n)) (before : Table) (s : Step n) (i : ℕ) (lt : i < length steps) (is : s ≡ get_or steps i s) (now after : Table)
      (l : Offering steps before (drop i steps) now) where
    next_step : Offering steps before (s ∷ drop (i + 1) steps) now
    next_step = dropped_next (λ rest. Offering steps before rest now) steps s i lt is l

    pub offering_more : OffersMatch m n (s ∷ []) now true after → Offering steps before (drop (i + 1) steps) after
    offering_more t log h = let u = next_step log h in (event n s ∷ u.0, t u.0 u.1, u.2)

    pub offering_fails : OffersMatch m n (s ∷ []) now false after → OffersMatch m n steps before false after
    offering_fails t log h md =
        let u = next_step log h in
        t u.0 u.1 (made_before (drop (i + 1) steps) (event n s ∷ u.0) (subst (Made m n) (sym u.2) md))

-- one question after another
module _ (m : Meaning) (n : ℕ) (asked : List (Asked n)) (table : Table) where
  -- the questions before the rest match
  abbrev pub Asking : List (Asked n) → Type 0
  Asking rest = (log : Log) → Holds m n log table
      → (Replied m n log rest → Replied m n log asked) × (Replied m n log asked → Replied m n log rest)

  module _ (a : Asked n) (i : ℕ) (lt : i < length asked) (is : a ≡ get_or asked i a) (l : Asking (drop i asked)) where
    next_question : Asking (a ∷ drop (i + 1) asked)
    next_question = dropped_next Asking asked a i lt is l

    pub asking_more : RepliesMatch m n (a ∷ []) table true → Asking (drop (i + 1) asked)
    asking_more t log h = let u = next_question log h in ((λ k. u.0 (((t log h).0 refl).0, k)), (λ k. (u.1 k).1))

    pub asking_fails : RepliesMatch m n (a ∷ []) table false → RepliesMatch m n asked table false
    asking_fails t log h = ((λ e. cc), (λ k. (t log h).1 (((next_question log h).1 k).0, tt)))

-- the whole run
pub run_matched : (m : Meaning) (n : ℕ) (steps : List (Step n)) (asked : List (Asked n)) (first last : Table) (r : Bool)
    → is_width n ≡ true → Holds m n [] first → OffersMatch m n steps first true last → RepliesMatch m n asked last r
    → Decides r ((is_width n ≡ true) × Runs m n steps asked)
run_matched m n steps asked first last r w h t d =
    let held = t [] h in
    let u = d (log_after n [] steps) held in
    ((λ e. (w, (held.made, u.0 e))), (λ p. u.1 p.1.1))
