-- Replies to questions.
use Rattle.std.proofs.Common.{◌≡◌, ℕ, List, Result, MutBor, ◌∙◌}
use Rattle.std.specs.Fn.{Once, FnOnceReturnsAtMut}
use Rattle.algebra.specs.Meaning.{Meaning}
use Rattle.linear.specs.Field.{FieldLaws}
use Rattle.logs.specs.declared.refusal.Refusal.{Refusal}
use Rattle.logs.specs.Questions.{Question, wrote}
use Rattle.logs.proofs.Replying.{one_reply}
use Rattle.recovery.specs.declared.table.Table.{Table}
use Rattle.pass.specs.declared.asking.Question.{Question as Asked}
use Rattle.pass.specs.declared.asking.Reply.{Reply}
use Rattle.pass.specs.Questions.{questioned, replied, Replied, Writes}
use Rattle.pass.specs.Comparisons.{Alike}

-- what was written to a slice of zeros is the reply, where each call answers the question about the content of its slice
pub wrote_replied : (m : Meaning) (t : Table) (question : List ℕ → Question) (zeros : List ℕ) {A : Type 0}
    (g : Once A (MutBor (List ℕ) × Unit {0}) (Result (Unit {0}) Refusal × (MutBor (List ℕ) × Unit {0}))) (ask : A)
    → ((shown left : MutBor (List ℕ)) (r : Result (Unit {0}) Refusal) → g.post ask (shown, tt) (r, (left, tt)) → Writes m t question shown.now r left.now)
    → (reply : Reply) → ((r : Result (Unit {0}) Refusal) × (written : List ℕ) × (replied reply ≡ wrote r written) × FnOnceReturnsAtMut g ask zeros r written)
    → Replied m t (question zeros) reply
wrote_replied m t question zeros g ask answers reply h n log held =
    rw (h.2, ← h.3.leaves, ← h.3.shows) (answers _ _ _ h.3.met n log held)

-- one reply on each side tells of all
pub replied_alike : (m k : Meaning) → FieldLaws m → FieldLaws k → (n : ℕ) (s t : Table) (q : Asked) (x y : Reply)
    → Replied m s (questioned n q) x → Replied k t (questioned n q) y → replied x ≡ replied y → Alike m k n s t q
replied_alike m k lm lk n s t q x y rx ry e = record {
  same = λ p l log other hs ht a b fa fb.
      one_reply m lm p log hs.made (questioned n q) a (replied x) fa (rx p log hs)
      ∙ e
      ∙ one_reply k lk l other ht.made (questioned n q) (replied y) b (ry l other ht) fb;
}
