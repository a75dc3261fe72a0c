-- Fields of one meaning: a log that is made over the one is made over the other, with the same answers.
use Rattle.std.proofs.Common.{◌≡◌, ℕ, zero, suc, ◌<◌, ◌↔◌, List, length, Ok, Err, Result, sym, refl, ap, ◌∙◌, arith}
use Rattle.algebra.specs.Meaning.{Meaning, OneMeaning}
use Rattle.algebra.specs.Operations.{operations, sum, dot}
use Rattle.logs.specs.declared.refusal.Refusal.{Refusal}
use Rattle.algebra.specs.Vectors.{Equation, row, entries, Codes, Vector, Sound, Sounds, Satisfies, Possible}
use Rattle.algebra.specs.Combinations.{Builds, value_sum}
use Rattle.algebra.proofs.Sums.{sum_cong}
use Rattle.linear.specs.Field.{FieldLaws}
use Rattle.linear.proofs.Codes.{codes_at, sum_codes}
use Rattle.logs.specs.declared.answer.Answer.{Answer}
use Rattle.logs.specs.declared.answer.Answer.TheVariants.{Kept, Implied, Contradiction}
use Rattle.logs.specs.declared.answer.Symbol.{Symbol}
use Rattle.logs.specs.declared.answer.Symbol.TheVariants.{Known, Open}
use Rattle.logs.specs.Offers.{Offer, equation, checked, Log, kept, PossibleAfter, Judged, Offered}
use Rattle.logs.specs.Reduced.{Built, Reduction}
use Rattle.logs.specs.Questions.{Kernel, Tells, Question, solution, kernel, unknown, Reply, wrote, said, Replies, Answers}
use Rattle.logs.specs.Logs.{Made, opened, offering, ranking}
use Rattle.logs.specs.Promises.{LeaveTheSame, AnswerAlike}
use Rattle.logs.proofs.Checking.{checked_sound}
use Rattle.logs.proofs.Histories.{made_sounds, possible_kept}
use Rattle.logs.proofs.Replying.{same_replies}

module _ (m k : Meaning) (laws : FieldLaws m) (one : OneMeaning m k) where
  to : {a : ℕ} → a < m.order → a < k.order
  to h = let e = one.orders in omega arith

  from : {a : ℕ} → a < k.order → a < m.order
  from h = let e = one.orders in omega arith

  -- sums and dot products of codes are the same
  sum_same : (l : ℕ) (f : ℕ → ℕ) → ((i : ℕ) → i < l → f i < m.order) → sum (operations m) l f ≡ sum (operations k) l f
  sum_same zero f h = refl
  sum_same (suc l) f h =
      one.sums (sum (operations m) l f) (f l) (sum_codes m laws l f (λ i b. h i (omega arith))).0 (h l (omega arith))
      ∙ ap (λ x. k.sum x (f l)) (sum_same l f (λ i b. h i (omega arith)))

  dot_same : (l : ℕ) (a b : ℕ → ℕ) → ((i : ℕ) → i < l → a i < m.order) → ((i : ℕ) → i < l → b i < m.order)
      → dot (operations m) l a b ≡ dot (operations k) l a b
  dot_same l a b ha hb =
      sum_same l (λ i. m.product (a i) (b i)) (λ i h. laws.ring.laws.product_code (a i) (b i) (ha i h) (hb i h))
      ∙ sum_cong (operations k) l _ _ (λ i h. one.products (a i) (b i) (ha i h) (hb i h))

  module _ (n : ℕ) where
    vector_to : (v : List ℕ) → Vector m n v → Vector k n v
    vector_to v h = record { long = h.long; codes = λ i l. to (h.codes i l) }

    vector_from : (v : List ℕ) → Vector k n v → Vector m n v
    vector_from v h = record { long = h.long; codes = λ i l. from (h.codes i l) }

    sounds_from : (es : List Equation) → Sounds k n es → Sounds m n es
    sounds_from es h i l = record { coefficients = vector_from (row es i).coefficients (h i l).coefficients; value = from (h i l).value }

    list_same : (xs v : List ℕ) → Codes m xs → Codes m v
        → dot (operations m) (length v) (entries xs) (entries v) ≡ dot (operations k) (length v) (entries xs) (entries v)
    list_same xs v cx cv =
        dot_same (length v) (entries xs) (entries v) (λ i _. codes_at m laws xs cx i) (λ i _. codes_at m laws v cv i)

    satisfies_same : (e : Equation) (v : List ℕ) → Sound m n e → Vector m n v → Satisfies m v e ↔ Satisfies k v e
    satisfies_same e v s hv =
        let d = list_same e.coefficients v s.coefficients.codes hv.codes in
        ((λ h. sym d ∙ h), (λ h. d ∙ h))

    module _ (es : List Equation) (sd : Sounds m n es) where
      possible_same : (v : List ℕ) → Possible m n es v ↔ Possible k n es v
      possible_same v = (
        (λ h. record {
          vector = vector_to v h.vector;
          meets = λ i l. (satisfies_same (row es i) v (sd i l) h.vector).0 (h.meets i l);
        }),
        (λ h. record {
          vector = vector_from v h.vector;
          meets = λ i l. (satisfies_same (row es i) v (sd i l) (vector_from v h.vector)).1 (h.meets i l);
        }),
      )

      -- weighted sums are the same
      weighed_same : (ws : List ℕ) → Codes k ws → (f : Equation → ℕ) → ((i : ℕ) → i < length es → f (row es i) < m.order)
          → dot (operations m) (length es) (entries ws) (λ i. f (row es i)) ≡ dot (operations k) (length es) (entries ws) (λ i. f (row es i))
      weighed_same ws h f hf =
          dot_same (length es) (entries ws) (λ i. f (row es i)) (λ i _. codes_at m laws ws (λ i l. from (h i l)) i) hf

      builds_from : (ws cs : List ℕ) → Builds k n es ws cs → Builds m n es ws cs
      builds_from ws cs h = record {
        long = h.long;
        codes = λ i l. from (h.codes i l);
        rest = h.rest;
        columns = λ j l.
            weighed_same ws h.codes (λ e. entries e.coefficients j)
            (λ i li. codes_at m laws (row es i).coefficients (sd i li).coefficients.codes j)
            ∙ h.columns j l;
      }

      value_same : (ws : List ℕ) → Codes k ws → value_sum m ws es ≡ value_sum k ws es
      value_same ws h = weighed_same ws h (λ e. e.value) (λ i l. (sd i l).value)

      built_from : (e : Equation) → Built k n es e → Built m n es e
      built_from e b = (b.0, builds_from b.0 e.coefficients b.1, value_same b.0 b.1.codes ∙ b.2)

    -- after a log that is made over both
    module _ (log : Log) (mm : Made m n log) (mk : Made k n log) where
      after_same : (v : List ℕ) → PossibleAfter m n log v ↔ PossibleAfter k n log v
      after_same v =
          let s = possible_same (kept log) (made_sounds mm) v in (
            (λ h. (possible_kept mk v).1 (s.0 ((possible_kept mm v).0 h))),
            (λ h. (possible_kept mm v).1 (s.1 ((possible_kept mk v).0 h))),
          )

      judged_from : (e : Equation) → Sound m n e → (a : Answer) (ws : List ℕ) → Judged k n log e a ws → Judged m n log e a ws
      judged_from e se (Kept i) ws h =
          let met = h.2 in
          let broken = h.3 in (
            h.0,
            h.1,
            (let p = (after_same met.0).1 met.1 in (met.0, p, (satisfies_same e met.0 se p.vector).1 met.2)),
            (let p = (after_same broken.0).1 broken.1 in (broken.0, p, λ s. broken.2 ((satisfies_same e broken.0 se p.vector).0 s))),
          )
      judged_from e se Implied ws h = (
        (λ v p. (satisfies_same e v se p.vector).1 (h.0 v ((after_same v).0 p))),
        builds_from (kept log) (made_sounds mm) ws e.coefficients h.1,
        value_same (kept log) (made_sounds mm) ws h.1.codes ∙ h.2,
      )
      judged_from e se Contradiction ws h = (
        (λ v p s. h.0 v ((after_same v).0 p) ((satisfies_same e v se p.vector).0 s)),
        builds_from (kept log) (made_sounds mm) ws e.coefficients h.1,
        (λ x. h.2 (sym (value_same (kept log) (made_sounds mm) ws h.1.codes) ∙ x)),
      )

      offered_from : (o : Offer) (a : Result Answer Refusal) (ws : List ℕ) → Offered k n log o a ws → Offered m n log o a ws
      offered_from o (Err r) ws h = (ap (λ x. checked x n o) one.orders ∙ h.0, h.1)
      offered_from o (Ok a) ws h =
          let c = ap (λ x. checked x n o) one.orders ∙ h.0 in
          (c, judged_from (equation o) (checked_sound m n o c).0 a ws h.1)

    -- a log that the one field makes, the other does
    pub made_from : {log : Log} → Made k n log → Made m n log
    made_from opened = opened
    made_from (offering {log} {o} {a} {ws} md h) = offering (made_from md) (offered_from log (made_from md) md o a ws h)
    made_from (ranking md) = ranking (made_from md)

    -- and a reduced form over the one is one over the other
    module _ (es : List Equation) (sd : Sounds m n es) (q : Reduction k n es) where
      rows_sound : Sounds m n q.rows
      rows_sound = sounds_from q.rows q.form.sound

      abbrev reduction_from : Reduction m n es
      reduction_from = record {
        rows = q.rows;
        pivots = q.pivots;
        form = record {
          echelon = q.form.echelon;
          sound = rows_sound;
          from_equations = λ i l. built_from es sd (row q.rows i) (q.form.from_equations i l);
          to_equations = λ i l. built_from q.rows rows_sound (row es i) (q.form.to_equations i l);
        };
      }

    -- so what may be answered over the one, may over the other
    module _ (log : Log) (mk : Made k n log) (q : Reduction k n (kept log)) where
      abbrev p : Reduction m n (kept log)
      p = reduction_from (kept log) (made_sounds (made_from mk)) q

      kernel_same : (i : ℕ) (v : List ℕ) → Kernel m n log p i v ↔ Kernel k n log q i v
      kernel_same i v = (
        (λ h. record {
          vector = vector_to v h.vector;
          one = h.one;
          zeros = h.zeros;
          rows = λ x l. sym (row_same h.vector x l) ∙ h.rows x l;
        }),
        (λ h. record {
          vector = vector_from v h.vector;
          one = h.one;
          zeros = h.zeros;
          rows = λ x l. row_same (vector_from v h.vector) x l ∙ h.rows x l;
        }),
      )
        where
          row_same : Vector m n v → (x : ℕ) → x < length q.rows
              → dot (operations m) (length v) (entries (row q.rows x).coefficients) (entries v)
              ≡ dot (operations k) (length v) (entries (row q.rows x).coefficients) (entries v)
          row_same hv x l = list_same (row q.rows x).coefficients v (p.form.sound x l).coefficients.codes hv.codes

      tells_from : (j : ℕ) (s : Symbol) → Tells k n log q j s → Tells m n log p j s
      tells_from j (Known c) h = λ v pv. h v ((after_same log (made_from mk) mk v).0 pv)
      tells_from j (Open i) h = (
        h.0,
        (λ v s. h.1 v ((kernel_same i v).0 s)),
        (λ x v l s. h.2 x v l ((kernel_same x v).0 s)),
      )

      replies_from : (question : Question) (r : Reply) → Replies k n log q question r → Replies m n log p question r
      replies_from (solution s) (wrote (Ok u) t) h =
          (h.0, record { possible = (after_same log (made_from mk) mk t).1 h.1.possible; zeros = h.1.zeros })
      replies_from (solution s) (wrote (Err e) t) h = h
      replies_from (solution s) (said x) h = h
      replies_from (kernel i s) (wrote (Ok u) t) h = (h.0, (kernel_same i t).1 h.1)
      replies_from (kernel i s) (wrote (Err e) t) h = h
      replies_from (kernel i s) (said x) h = h
      replies_from (unknown j) (wrote r t) h = h
      replies_from (unknown j) (said (Ok x)) h = (h.0, tells_from j x h.1)
      replies_from (unknown j) (said (Err e)) h = h

    pub answers_from : {log : Log} → Made k n log → (question : Question) (r : Reply) → Answers k n log question r → Answers m n log question r
    answers_from {log} mk question r a = (p log mk a.0, replies_from log mk a.0 question r a.1)

-- logs over fields of one meaning that leave the same vectors answer alike
pub log_agreed : (m : Meaning) (laws : FieldLaws m) (n : ℕ) (log : Log) → Made m n log
    → (k : Meaning) → OneMeaning m k → (other : Log) → Made k n other → LeaveTheSame m log k other n → AnswerAlike m log k other n
log_agreed m laws n log md k one other mk same question a b f g =
    let mo = made_from m k laws one n mk in
    same_replies m laws n log other md mo
    (λ v.
    let s = after_same m k laws one n other mo mk v in
    ((λ h. s.1 ((same v).0 h)), (λ h. (same v).1 (s.0 h))))
    question a b f (answers_from m k laws one n mk question b g)
