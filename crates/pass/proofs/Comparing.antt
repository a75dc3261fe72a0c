-- What the questions asked by a comparison tell of all questions.
use Rattle.std.proofs.Common.{◌≡◌, ◌≢◌, ℕ, zero, suc, ◌+◌, ◌-◌, ◌<◌, ◌≤◌, Bool, true, false, cond, eqb, ltb, ◌⊎◌, List, [], ◌∷◌, ◌++◌, map, take, get_or, length, length-append, subst, replicate, Some, None, Ok, Option, Result, sym, refl, ap, ◌∙◌, inl, inr, arith, Err}
use Rattle.std.specs.Iterator.{AlwaysYields}
use Rattle.std.proofs.lemmas.Iterator.{YieldsList}
use Rattle.std.specs.List.{All, range_with_len}
use Rattle.std.proofs.lemmas.List.{length-replicate, length-map, map-id, get_or_append_left, get_or-append_right, get_or-take, length-take-le}
use Rattle.std.proofs.lemmas.List.FromFn.{length-range_with_len, get_or-map-range_with_len}
use Rattle.std.proofs.lemmas.Bool.{cond-true, cond-false, eq-eqb, le-ltb, cases_lt}
use Rattle.algebra.specs.Meaning.{Meaning}
use Rattle.algebra.specs.Outcome.{unless_refused}
use Rattle.logs.specs.declared.refusal.Refusal.{Refusal}
use Rattle.logs.specs.declared.refusal.Refusal.TheVariants as refusal
use Rattle.linear.specs.Field.{FieldLaws}
use Rattle.linear.proofs.Tables.{Tabled}
use Rattle.logs.specs.Offers.{Log, kept}
use Rattle.logs.specs.Questions.{solution_checked, unknown_checked, Question, solution, kernel, unknown, wrote, said}
use Rattle.logs.specs.Questions.{Reply as LogReply}
use Rattle.logs.specs.Promises.{AnswerAlike}
use Rattle.logs.proofs.Histories.{made_tabled}
use Rattle.logs.proofs.Keeping.{agrees}
use Rattle.logs.proofs.Reductions.{solution_of, kernel_of}
use Rattle.logs.proofs.Replying.{or_refused, shown, reply_of, is_reply, reply_is}
use Rattle.recovery.specs.declared.table.Table.{Table}
use Rattle.recovery.specs.Tables.{Holds}
use Rattle.pass.specs.declared.asking.Question.{Question as Asked}
use Rattle.pass.specs.declared.asking.Question.TheVariants.{Solution, Kernel, Unknown}
use Rattle.pass.specs.declared.comparison.Difference.{Difference}
use Rattle.pass.specs.declared.asking.Reply.{Reply}
use Rattle.pass.specs.Questions.{questioned, replied, Replied}
use Rattle.pass.specs.Comparisons.{Alike, FirstAmong, FirstAt, First, Compared}

-- the content that a reply tells
abbrev content : LogReply → List ℕ
content (wrote r x) = x
content (said r) = []

-- the reply to a question whose slice is x: u is written, where the check passes
abbrev wrote_by : Result (Unit {0}) Refusal → List ℕ → List ℕ → LogReply
wrote_by r u x = wrote r (unless_refused r u x)

module _ (n : ℕ) where
  abbrev zeros : List ℕ
  zeros = replicate n 0

  zeros_pass : solution_checked n (length zeros) ≡ Ok tt
  zeros_pass = cond-true (eqb (length zeros) n) _ _ (eq-eqb (length zeros) n (length-replicate n 0))

  -- equal replies on the slice of zeros are equal on every slice
  solution_every : (u v x : List ℕ) → wrote_by (solution_checked n (length zeros)) u zeros ≡ wrote_by (solution_checked n (length zeros)) v zeros
      → wrote_by (solution_checked n (length x)) u x ≡ wrote_by (solution_checked n (length x)) v x
  solution_every u v x e =
      ap (λ w. wrote_by (solution_checked n (length x)) w x)
      (simp zeros_pass at (ap content e))

  -- where b tells whether there is such a kernel vector
  abbrev kernel_by : Bool → List ℕ → List ℕ → LogReply
  kernel_by b u x = wrote_by (cond b (solution_checked n (length x)) (Err refusal.Kernel)) u x

  kernel_every : (b d : Bool) (u v x : List ℕ) → kernel_by b u zeros ≡ kernel_by d v zeros → kernel_by b u x ≡ kernel_by d v x
  kernel_every true true u v x e = solution_every u v x e
  kernel_every true false u v x e = cc zeros_pass
  kernel_every false true u v x e = cc zeros_pass
  kernel_every false false u v x e = refl

  -- past the unknowns there is no kernel vector
  kernel_past : (rank i : ℕ) → n ≤ i → ltb i (n - rank) ≡ false
  kernel_past rank i l = le-ltb i (n - rank) (omega arith)

  unknown_past : (j : ℕ) → n ≤ j → unknown_checked n j ≡ Err refusal.Unknown
  unknown_past j l = cond-false (ltb j n) _ _ (le-ltb j n l)

-- what is known of each list that an iterator gives, at one that it gives
pub by_road : {S A : Type 0} {steps : S → Option A → S → Type 0} {s : S} {P : List A → Type 0}
    → ((all : List A) → AlwaysYields steps (λ x. x) s all → P all) → (all : List A) → YieldsList steps (λ x. x) s all → P all
by_road h all road = h all road.runs

-- the questions that a comparison asks
abbrev pub asked : ℕ → List Asked
asked n = (Solution ∷ map Kernel (range_with_len 0 n)) ++ map Unknown (range_with_len 0 n)

module _ (n : ℕ) where
  asked_long : length (asked n) ≡ suc (n + n)
  asked_long =
      simp (length-append, length-map, length-range_with_len) (omega arith)

  kernel_asked : (i : ℕ) (d : Asked) → i < n → get_or (asked n) (suc i) d ≡ Kernel i
  kernel_asked i d l =
      get_or_append_left (Solution ∷ map Kernel (range_with_len 0 n)) (map Unknown (range_with_len 0 n)) d (suc i)
      (simp (length-map, length-range_with_len) (omega arith))
      ∙ get_or-map-range_with_len Kernel 0 n i i d l (omega arith)

  unknown_asked : (i : ℕ) (d : Asked) → i < n → get_or (asked n) (suc (n + i)) d ≡ Unknown i
  unknown_asked i d l =
      get_or-append_right (Solution ∷ map Kernel (range_with_len 0 n)) (map Unknown (range_with_len 0 n)) (suc n) (suc (n + i)) d
      (simp (length-map, length-range_with_len) refl) (omega arith)
      ∙ ap (λ j. get_or (map Unknown (range_with_len 0 n)) j d) (let e : suc (n + i) - suc n ≡ i = omega arith in e)
      ∙ get_or-map-range_with_len Unknown 0 n i i d l (omega arith)

module _ (m k : Meaning) (n : ℕ) (s t : Table) where
  abbrev Answered : Asked → Type 0
  Answered = Alike m k n s t

  -- all of some questions, which came as xs, are answered alike
  pub all_among : (qs xs : List Asked) → map (λ q. q) xs ≡ qs → All Answered xs → FirstAmong m k n s t qs None
  all_among qs xs e h = subst (All Answered) (sym (map-id xs) ∙ e) h

  -- after the questions xs comes q, which is answered differently
  pub first_among : (qs xs : List Asked) (q : Asked) (x y : Reply) (d : Difference) → map (λ q. q) xs ≡ take (length xs) qs
      → (length xs < length qs) × (q ≡ get_or qs (length xs) q) → All Answered xs → Replied m s (questioned n q) x → Replied k t (questioned n q) y
      → (d ≡ record { question = q; first = x; second = y }) × (replied x ≢ replied y) → FirstAmong m k n s t qs (Some d)
  first_among qs xs q x y d e p h rx ry apart =
      rw apart.0
      (length xs, p.0, p.1, record { first = rx; second = ry; apart = apart.1 }, subst (All Answered) (sym (map-id xs) ∙ e) h)

  -- the questions below i are answered alike
  abbrev Before : ℕ → Type 0
  Before i = (x : ℕ) → x < i → Answered (get_or (asked n) x Solution)

  kernels_same : (i y : ℕ) → Before i → y ≤ n → y < i → (x : ℕ) → x < y → Answered (Kernel x)
  kernels_same i y h ly li x l = subst Answered (kernel_asked n x Solution (omega arith)) (h (suc x) (omega arith))

  unknowns_same : (i y : ℕ) → Before i → y ≤ n → n + y < i → (x : ℕ) → x < y → Answered (Unknown x)
  unknowns_same i y h ly li x l = subst Answered (unknown_asked n x Solution (omega arith)) (h (suc (n + x)) (omega arith))

  first_at : (i : ℕ) (q : Asked) → Before i → i < length (asked n) → q ≡ get_or (asked n) i q → FirstAt m k n s t q
  first_at zero q h l e = subst (FirstAt m k n s t) (sym e) tt
  first_at (suc i) q h l e = go (cases_lt i n)
    where
      go : (i < n) ⊎ (n ≤ i) → FirstAt m k n s t q
      go (inl b) =
          subst (FirstAt m k n s t) (sym (e ∙ kernel_asked n i q b)) (b, h 0 (omega arith), kernels_same (suc i) i h (omega arith) (omega arith))
      go (inr b) =
          let long = asked_long n in
          let is : i ≡ n + (i - n) = omega arith in
          let short : i - n < n = omega arith in
          subst (FirstAt m k n s t) (sym (e ∙ ap (λ j. get_or (asked n) (suc j) q) is ∙ unknown_asked n (i - n) q short))
          (short, h 0 (omega arith), kernels_same (suc i) n h (omega arith) (omega arith), unknowns_same (suc i) (i - n) h (omega arith) (omega arith))

  first_asked : (d : Option Difference) → FirstAmong m k n s t (asked n) d → First m k n s t d
  first_asked None h =
      let long = asked_long n in
      let all = λ (x : ℕ) (l : x < suc (n + n)). h x Solution (omega arith) in
      (h 0 Solution (omega arith), kernels_same (suc (n + n)) n all (omega arith) (omega arith), unknowns_same (suc (n + n)) n all (omega arith) (omega arith))
  first_asked (Some d) h =
      let i = h.0 in
      let below : Before i =
      λ x l. subst Answered (get_or-take i (asked n) x Solution l) (h.4 x Solution (let e = length-take-le i (asked n) (omega arith) in omega arith)) in
      (h.3, first_at i d.question below h.1 h.2)

module _ (m k : Meaning) (lm : FieldLaws m) (lk : FieldLaws k) (n : ℕ) (s t : Table) where
  -- after logs that the tables hold
  module _ (log other : Log) (hs : Holds m n log s) (ht : Holds k n other t) where
    abbrev left : Tabled m lm n (kept log)
    left = made_tabled m lm n hs.made

    abbrev right : Tabled k lk n (kept other)
    right = made_tabled k lk n ht.made

    abbrev Same : Question → Type 0
    Same q = reply_of m lm n (kept log) left q ≡ reply_of k lk n (kept other) right q

    same_asked : (q : Asked) → Alike m k n s t q → Same (questioned n q)
    same_asked q al =
        al.same n n log other hs ht _ _ (is_reply m lm n log hs.made left (questioned n q)) (is_reply k lk n other ht.made right (questioned n q))

    same_every : First m k n s t None → (q : Question) → Same q
    same_every f (solution x) =
        solution_every n (solution_of m lm n (kept log) left) (solution_of k lk n (kept other) right) x (same_asked Solution f.0)
    same_every f (kernel i x) = go (cases_lt i n)
      where
        go : (i < n) ⊎ (n ≤ i) → Same (kernel i x)
        go (inl l) =
            kernel_every n (ltb i (n - length (kept log))) (ltb i (n - length (kept other))) (kernel_of m lm n (kept log) left i)
            (kernel_of k lk n (kept other) right i) x (same_asked (Kernel i) (f.1 i l))
        go (inr l) =
            ap (λ b. kernel_by n b (kernel_of m lm n (kept log) left i) x) (kernel_past n (length (kept log)) i l)
            ∙ sym (ap (λ b. kernel_by n b (kernel_of k lk n (kept other) right i) x) (kernel_past n (length (kept other)) i l))
    same_every f (unknown j) = go (cases_lt j n)
      where
        go : (j < n) ⊎ (n ≤ j) → Same (unknown j)
        go (inl l) = same_asked (Unknown j) (f.2 j l)
        go (inr l) =
            ap (λ r. said (or_refused r (shown m lm n (kept log) left j).0)) (unknown_past n j l)
            ∙ sym (ap (λ r. said (or_refused r (shown k lk n (kept other) right j).0)) (unknown_past n j l))

    all_alike : First m k n s t None → AnswerAlike m log k other n
    all_alike f q a b fa fb =
        reply_is m lm n log hs.made left q a fa ∙ same_every f q ∙ sym (reply_is k lk n other ht.made right q b fb)

    none_alike : (d : Option Difference) → First m k n s t d → d ≡ None → AnswerAlike m log k other n
    none_alike None f e = all_alike f
    none_alike (Some x) f e = cc

    alike_none : (d : Option Difference) → First m k n s t d → AnswerAlike m log k other n → d ≡ None
    alike_none None f al = refl
    alike_none (Some x) f al = absurd (f.0.apart (al (questioned n x.question) _ _ (f.0.first n log hs) (f.0.second n other ht)))

  pub compared : (d : Option Difference) → FirstAmong m k n s t (asked n) d → Compared m k n s t d
  compared d h =
      let f = first_asked m k n s t d h in
      record {
        first = f;
        alike = λ log other hs ht. (none_alike log other hs ht d f, alike_none log other hs ht d f);
        agree = λ log other hs ht one leave.
            alike_none log other hs ht d f (agrees m k lm one n log other hs.made ht.made leave);
      }
