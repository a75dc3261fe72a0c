-- What every log has: sound kept equations with a reduced table, which leave the vectors possible that the accepted ones do.
use Rattle.std.proofs.Common.{◌≡◌, ℕ, List, ◌∷◌, length, Ok, Err, Result, refl, arith}
use Rattle.algebra.specs.Meaning.{Meaning}
use Rattle.logs.specs.declared.refusal.Refusal.{Refusal}
use Rattle.algebra.specs.Vectors.{Sound, Sounds, Possible}
use Rattle.linear.specs.Field.{FieldLaws}
use Rattle.linear.proofs.Systems.{each_more, possible_more, possible_fewer}
use Rattle.linear.proofs.Tables.{Tabled, tabled_none, tabled_more, both_open}
use Rattle.logs.specs.declared.answer.Answer.{Answer}
use Rattle.logs.specs.declared.answer.Answer.TheVariants.{Kept, Implied, Contradiction}
use Rattle.logs.specs.Offers.{Offer, equation, Event, Log, offered, ranked, kept, accepted, PossibleAfter, Offered}
use Rattle.logs.specs.Logs.{Made, opened, offering, ranking}
use Rattle.logs.proofs.Checking.{checked_sound}

module _ {m : Meaning} {n : ℕ} where
  -- the parts of a log that is made
  pub made_log : {e : Event} {log : Log} → Made m n (e ∷ log) → Made m n log
  made_log (offering md h) = md
  made_log (ranking md) = md

  pub made_offered : {log : Log} {o : Offer} {a : Result Answer Refusal} {ws : List ℕ} → Made m n (offered o a ws ∷ log) → Offered m n log o a ws
  made_offered (offering md h) = h

  pub made_ranked : {log : Log} {r : ℕ} → Made m n (ranked r ∷ log) → r ≡ length (kept log)
  made_ranked (ranking md) = refl

  pub made_sounds : {log : Log} → Made m n log → Sounds m n (kept log)
  made_sounds opened = λ i l. absurd (omega arith)
  made_sounds (offering {log} {o} {a} {ws} md h) = go a h (made_sounds md)
    where
      go : (a : Result Answer Refusal) → Offered m n log o a ws → Sounds m n (kept log) → Sounds m n (kept (offered o a ws ∷ log))
      go (Err r) h s = s
      go (Ok (Kept k)) h s = each_more (Sound m n) (kept log) (equation o) s (checked_sound m n o h.0).0
      go (Ok Implied) h s = s
      go (Ok Contradiction) h s = s
  made_sounds (ranking md) = made_sounds md

  -- the accepted equations leave the vectors possible that the kept ones do
  pub possible_kept : {log : Log} → Made m n log → (v : List ℕ)
      → (PossibleAfter m n log v → Possible m n (kept log) v) × (Possible m n (kept log) v → PossibleAfter m n log v)
  possible_kept opened v = ((λ p. p), (λ p. p))
  possible_kept (offering {log} {o} {a} {ws} md h) v = go a h (possible_kept md v)
    where
      Same : Log → Type 0
      Same log = (PossibleAfter m n log v → Possible m n (kept log) v) × (Possible m n (kept log) v → PossibleAfter m n log v)

      go : (a : Result Answer Refusal) → Offered m n log o a ws → Same log → Same (offered o a ws ∷ log)
      go (Err r) h ih = ih
      go (Ok (Kept k)) h ih = (
        (λ p. let t = possible_fewer m n (accepted log) (equation o) v p in possible_more m n (kept log) (equation o) v (ih.0 t.0) t.1),
        (λ p. let t = possible_fewer m n (kept log) (equation o) v p in possible_more m n (accepted log) (equation o) v (ih.1 t.0) t.1),
      )
      go (Ok Implied) h ih = (
        (λ p. ih.0 (possible_fewer m n (accepted log) (equation o) v p).0),
        (λ p. possible_more m n (accepted log) (equation o) v (ih.1 p) (h.1.0 v (ih.1 p))),
      )
      go (Ok Contradiction) h ih = ih
  possible_kept (ranking md) v = possible_kept md v

module _ (m : Meaning) (laws : FieldLaws m) (n : ℕ) where
  pub made_tabled : {log : Log} → Made m n log → Tabled m laws n (kept log)
  made_tabled opened = tabled_none m laws n
  made_tabled (offering {log} {o} {a} {ws} md h) = go a h (made_tabled md)
    where
      go : (a : Result Answer Refusal) → Offered m n log o a ws → Tabled m laws n (kept log) → Tabled m laws n (kept (offered o a ws ∷ log))
      go (Err r) h t = t
      go (Ok (Kept k)) h t =
          let met = h.1.2 in
          let broken = h.1.3 in
          tabled_more m laws n (kept log) t (equation o)
          (both_open m laws n (kept log) t (equation o) (made_sounds md) (checked_sound m n o h.0).0 met.0 broken.0
          ((possible_kept md met.0).0 met.1) met.2 ((possible_kept md broken.0).0 broken.1) broken.2)
      go (Ok Implied) h t = t
      go (Ok Contradiction) h t = t
  made_tabled (ranking md) = made_tabled md
