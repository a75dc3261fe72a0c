-- No answer to an offer is left to choice, and the order of the offers does not change what is possible.
use Rattle.std.proofs.Common.{◌≡◌, ℕ, suc, ◌<◌, ◌≢◌, ◌↔◌, List, [], ◌∷◌, ◌++◌, length, Ok, Err, Result, sym, refl, ap, ◌∙◌, subst, ap₂, arith, ext_get_or}
use native.Mathlib.Decide.{dec_lt}
use Rattle.algebra.specs.Meaning.{Meaning}
use Rattle.algebra.specs.Operations.{dot}
use Rattle.logs.specs.declared.refusal.Refusal.{Refusal}
use Rattle.algebra.specs.Vectors.{Equation, row, entries, Sound, Sounds, Satisfies, Possible}
use Rattle.algebra.specs.Combinations.{Builds, value_sum}
use Rattle.algebra.proofs.Sums.{sum_cong}
use Rattle.linear.specs.Field.{FieldOn, FieldLaws, ops}
use Rattle.linear.proofs.Identities.{zero-*, +-zero, cancel, +-neg, one-*, *-assoc, *-comm, from_less}
use Rattle.linear.proofs.Sums.{sum_zero, dot_add, dot_neg, dot_comm, dot_rows}
use Rattle.linear.proofs.Solving.{val_sat}
use Rattle.linear.proofs.Codes.{Code, code, code_same, codes_at, vec, field, code_ops}
use Rattle.linear.proofs.Systems.{coef, meets_to, satisfies_to, satisfies_from, listed, listed_possible, column_code, row_before, row_last, length_more}
use Rattle.logs.specs.declared.answer.Answer.{Answer}
use Rattle.logs.specs.declared.answer.Answer.TheVariants.{Kept, Implied, Contradiction}
use Rattle.logs.specs.Offers.{Offer, equation, Log, offered, kept, accepted, PossibleAfter, Judged, Offered}
use Rattle.logs.specs.Logs.{Made, opened, offering, ranking}
use Rattle.logs.specs.Promises.{Occurs, LeaveTheSame}
use Rattle.logs.proofs.Checking.{err_ok, checked_sound}
use Rattle.logs.proofs.Histories.{made_offered, made_sounds, made_tabled, possible_kept}

-- rows over any field
module _ {K : Type 0} (F : FieldOn K) (n : ℕ) where
  open F.ring.ops use {𝟘, ◌⊕◌, ◌⊗◌, ⊖}
  open F use {inv, ⊗-inv, dec}

  -- the first k rows are independent: only weights of 0 make nothing of them
  abbrev Independent : ℕ → (ℕ → ℕ → K) → Type 0
  Independent k R = (d : ℕ → K) → ((j : ℕ) → j < n → dot (ops F) k d (λ i. R i j) ≡ 𝟘) → (i : ℕ) → i < k → d i ≡ 𝟘

  cancel_factor : (d x y : K) → ¬ (d ≡ 𝟘) → d ⊗ x ≡ d ⊗ y → x ≡ y
  cancel_factor d x y ne e = sym (undo x) ∙ ap (λ z. inv d ⊗ z) e ∙ undo y
    where
      undo : (z : K) → inv d ⊗ (d ⊗ z) ≡ z
      undo z = sym (*-assoc F.ring (inv d) d z) ∙ ap (λ w. w ⊗ z) (*-comm F.ring (inv d) d ∙ ⊗-inv d ne) ∙ one-* F.ring z

  -- one row more, which tells two vectors apart that the rows before do not
  independent_more : (k : ℕ) (R S : ℕ → ℕ → K) → ((i : ℕ) → i < k → S i ≡ R i) → Independent k R → (v w : ℕ → K)
      → ((i : ℕ) → i < k → dot (ops F) n (S i) v ≡ dot (ops F) n (S i) w) → ¬ (dot (ops F) n (S k) v ≡ dot (ops F) n (S k) w) → Independent (suc k) S
  independent_more k R S same ih v w before apart d h i l = go (dec_lt i k)
    where
      at : (u : ℕ → K) → dot (ops F) k d (λ i. dot (ops F) n (S i) u) ⊕ d k ⊗ dot (ops F) n (S k) u ≡ 𝟘
      at u =
          sym (dot_rows F.ring n (suc k) d S u)
          ∙ sum_zero F.ring n _ (λ j b. ap (λ x. x ⊗ u j) (h j b) ∙ zero-* F.ring (u j))

      factor : d k ⊗ dot (ops F) n (S k) v ≡ d k ⊗ dot (ops F) n (S k) w
      factor =
          cancel F.ring _ _ _
          (at v ∙ sym (at w) ∙ ap (λ x. x ⊕ d k ⊗ dot (ops F) n (S k) w) (sum_cong (ops F) k _ _ (λ i b. ap (λ x. d i ⊗ x) (sym (before i b)))))

      last : d k ≡ 𝟘
      last = elim (dec (d k) 𝟘) [ yes z ↦ z | no ne ↦ absurd (apart (cancel_factor (d k) _ _ ne factor)) ]

      fewer : (j : ℕ) → j < n → dot (ops F) k d (λ i. R i j) ≡ 𝟘
      fewer j c =
          sum_cong (ops F) k _ _ (λ i b. ap (λ r. d i ⊗ r j) (sym (same i b))) ∙ sym (+-zero F.ring _)
          ∙ ap (λ x. dot (ops F) k d (λ i. S i j) ⊕ x) (sym (ap (λ x. x ⊗ S k j) last ∙ zero-* F.ring (S k j))) ∙ h j c

      go : Dec (i < k) → d i ≡ 𝟘
      go (yes b) = ih d fewer i b
      go (no b) = let q : i ≡ k = omega arith in ap d q ∙ last

  -- at most one choice of weights makes what is asked of independent rows
  weights_once : (k : ℕ) (R : ℕ → ℕ → K) → Independent k R → (a b : ℕ → K)
      → ((j : ℕ) → j < n → dot (ops F) k a (λ i. R i j) ≡ dot (ops F) k b (λ i. R i j)) → (i : ℕ) → i < k → a i ≡ b i
  weights_once k R ind a b h i l = from_less F.ring (a i) (b i) (ind (λ i. a i ⊕ ⊖ (b i)) nothing_made i l)
    where
      nothing_made : (j : ℕ) → j < n → dot (ops F) k (λ i. a i ⊕ ⊖ (b i)) (λ i. R i j) ≡ 𝟘
      nothing_made j c =
          let col = λ (i : ℕ). R i j in
          dot_comm F.ring k _ col ∙ dot_add F.ring k col a (λ i. ⊖ (b i))
          ∙ ap₂ ◌⊕◌ (dot_comm F.ring k col a ∙ h j c) (dot_neg F.ring k col b ∙ ap ⊖ (dot_comm F.ring k col b)) ∙ +-neg F.ring _

module _ (m : Meaning) (laws : FieldLaws m) (n : ℕ) where
  abbrev Fd : FieldOn (Code m)
  Fd = field m laws

  -- the kept equations have independent coefficients
  abbrev IndependentAfter : Log → Type 0
  IndependentAfter log = Independent Fd n (length (kept log)) (coef m laws n (kept log))

  module _ (es : List Equation) (e : Equation) (sd : Sounds m n es) (se : Sound m n e) (v w : List ℕ)
      (pv : Possible m n es v) (sv : Satisfies m v e) (pw : Possible m n es w) (nw : Satisfies m w e → ⊥) where
    -- an equation whose coefficients give the same at v and w
    abbrev Same : Equation → Type 0
    Same x = dot (code_ops m laws) n (vec m laws x.coefficients) (vec m laws v) ≡ dot (code_ops m laws) n (vec m laws x.coefficients) (vec m laws w)

    independent_kept : Independent Fd n (length es) (coef m laws n es) → Independent Fd n (length (es ++ (e ∷ []))) (coef m laws n (es ++ (e ∷ [])))
    independent_kept ih =
        subst (λ k. Independent Fd n k (coef m laws n (es ++ (e ∷ [])))) (sym (length_more es e))
        (independent_more Fd n (length es) (coef m laws n es) (coef m laws n (es ++ (e ∷ [])))
        (λ i l. ap (λ x. vec m laws x.coefficients) (row_before es e i l)) ih (vec m laws v) (vec m laws w)
        (λ i l. subst Same (sym (row_before es e i l)) (meets_to m laws n es v sd pv i l ∙ sym (meets_to m laws n es w sd pw i l)))
        (λ x.
        nw
        (satisfies_from m laws n e w se pw.vector
        (sym (subst Same (row_last es e) x) ∙ satisfies_to m laws n e v se pv.vector sv))))

  made_independent : {log : Log} → Made m n log → IndependentAfter log
  made_independent opened = λ d h i l. absurd (omega arith)
  made_independent (offering {log} {o} {a} {ws} md h) = go a h (made_independent md)
    where
      go : (a : Result Answer Refusal) → Offered m n log o a ws → IndependentAfter log → IndependentAfter (offered o a ws ∷ log)
      go (Err r) h ih = ih
      go (Ok (Kept k)) h ih =
          let met = h.1.2 in
          let broken = h.1.3 in
          independent_kept (kept log) (equation o) (made_sounds md) (checked_sound m n o h.0).0 met.0 broken.0
          ((possible_kept md met.0).0 met.1) met.2 ((possible_kept md broken.0).0 broken.1) broken.2 ih
      go (Ok Implied) h ih = ih
      go (Ok Contradiction) h ih = ih
  made_independent (ranking md) = made_independent md

  -- at most one list of weights builds given coefficients from the kept equations
  pub builds_once : {log : Log} → Made m n log → (ws us cs : List ℕ) → Builds m n (kept log) ws cs → Builds m n (kept log) us cs → ws ≡ us
  builds_once {log} md ws us cs b c =
      ext_get_or 0 ws us (b.long ∙ sym c.long) (λ i l. go i (let z = b.long in omega arith) (dec_lt i (length (kept log))))
    where
      made : (xs : List ℕ) → Builds m n (kept log) xs cs → (j : ℕ) → j < n
          → dot (code_ops m laws) (length (kept log)) (vec m laws xs) (λ i. coef m laws n (kept log) i j) ≡ vec m laws cs j
      made xs x j l = sym (column_code m laws n xs (kept log) x.codes (made_sounds md) j).1 ∙ ap (code m laws) (x.columns j l)

      go : (i : ℕ) → i < n → Dec (i < length (kept log)) → entries ws i ≡ entries us i
      go i k (yes l) =
          code_same m laws (entries ws i) (entries us i) (codes_at m laws ws b.codes i) (codes_at m laws us c.codes i)
          (weights_once Fd n (length (kept log)) (coef m laws n (kept log)) (made_independent md) (vec m laws ws) (vec m laws us)
          (λ j k. made ws b j k ∙ sym (made us c j k)) i l)
      go i k (no l) = b.rest i (omega arith) k ∙ sym (c.rest i (omega arith) k)

  -- some vector is possible
  pub some_possible : {log : Log} → Made m n log → (v : List ℕ) × PossibleAfter m n log v
  some_possible {log} md =
      let t = made_tabled m laws n md in
      let v = listed m laws n t.val_of in
      let met = t.back t.val_of (val_sat Fd n t.row_of t.val_of t.reduced) in
      (v, (possible_kept md v).1 (listed_possible m laws n (kept log) t.val_of (made_sounds md) met))

  -- a contradiction is an offer that no possible vector satisfies
  pub log_refuted : (log : Log) → Made m n log → (o : Offer) (a : Answer) (ws : List ℕ) → Made m n (offered o (Ok a) ws ∷ log)
      → (a ≡ Contradiction) ↔ ((v : List ℕ) → PossibleAfter m n log v → Satisfies m v (equation o) → ⊥)
  log_refuted log md o a ws mo = (to a (made_offered mo).1, back a (made_offered mo).1)
    where
      to : (a : Answer) → Judged m n log (equation o) a ws → a ≡ Contradiction
          → (v : List ℕ) → PossibleAfter m n log v → Satisfies m v (equation o) → ⊥
      to (Kept k) h e = absurd (grind arith)
      to Implied h e = absurd (grind arith)
      to Contradiction h e = h.0

      back : (a : Answer) → Judged m n log (equation o) a ws
          → ((v : List ℕ) → PossibleAfter m n log v → Satisfies m v (equation o) → ⊥) → a ≡ Contradiction
      back (Kept k) h none = let met = h.2 in absurd (none met.0 met.1 met.2)
      back Implied h none = let p = some_possible md in absurd (none p.0 p.1 (h.0 p.0 p.1))
      back Contradiction h none = refl

  -- an offer has one answer and one list of weights after it
  pub log_settled : (log : Log) → Made m n log → (o : Offer) (a b : Result Answer Refusal) (ws us : List ℕ)
      → Made m n (offered o a ws ∷ log) → Made m n (offered o b us ∷ log) → (a ≡ b) × (ws ≡ us)
  log_settled log md o a b ws us ma mb = go a b (made_offered ma) (made_offered mb)
    where
      some : (v : List ℕ) × PossibleAfter m n log v
      some = some_possible md

      judged : (a b : Answer) → Judged m n log (equation o) a ws → Judged m n log (equation o) b us → (a ≡ b) × (ws ≡ us)
      judged (Kept k) (Kept j) h l = (ap Kept (h.0 ∙ sym l.0), h.1 ∙ sym l.1)
      judged (Kept k) Implied h l = let broken = h.3 in absurd (broken.2 (l.0 broken.0 broken.1))
      judged (Kept k) Contradiction h l = let met = h.2 in absurd (l.0 met.0 met.1 met.2)
      judged Implied (Kept j) h l = let broken = l.3 in absurd (broken.2 (h.0 broken.0 broken.1))
      judged Implied Implied h l = (refl, builds_once md ws us o.coefficients h.1 l.1)
      judged Implied Contradiction h l = absurd (l.0 some.0 some.1 (h.0 some.0 some.1))
      judged Contradiction (Kept j) h l = let met = l.2 in absurd (h.0 met.0 met.1 met.2)
      judged Contradiction Implied h l = absurd (h.0 some.0 some.1 (l.0 some.0 some.1))
      judged Contradiction Contradiction h l = (refl, builds_once md ws us o.coefficients h.1 l.1)

      go : (a b : Result Answer Refusal) → Offered m n log o a ws → Offered m n log o b us → (a ≡ b) × (ws ≡ us)
      go (Err r) (Err q) h l = (cc, h.1 ∙ sym l.1)
      go (Err r) (Ok y) h l = absurd (err_ok (sym h.0 ∙ l.0))
      go (Ok x) (Err q) h l = absurd (err_ok (sym l.0 ∙ h.0))
      go (Ok x) (Ok y) h l = let t = judged x y h.1 l.1 in (ap Ok t.0, t.1)

module _ (m : Meaning) (n : ℕ) where
  -- the weights of a contradiction build the coefficients with another value
  pub log_missed : (log : Log) (o : Offer) (ws : List ℕ) → Made m n (offered o (Ok Contradiction) ws ∷ log)
      → Builds m n (kept log) ws o.coefficients × (value_sum m ws (kept log) ≢ o.value)
  log_missed log o ws mo = let h = (made_offered mo).1 in (h.1, h.2)

  possible_among : (es fs : List Equation) (v : List ℕ) → ((e : Equation) → Occurs e fs → Occurs e es) → Possible m n es v → Possible m n fs v
  possible_among es fs v h p = record {
    vector = p.vector;
    meets = λ i l. let t = h (row fs i) (i, l, refl) in subst (Satisfies m v) t.2 (p.meets t.0 t.1);
  }

  -- logs that accepted the same equations leave the same vectors
  pub log_ordered : (log other : Log)
      → ((e : Equation) → Occurs e (accepted log) → Occurs e (accepted other)) → ((e : Equation) → Occurs e (accepted other) → Occurs e (accepted log))
      → LeaveTheSame m log m other n
  log_ordered log other to back v = (possible_among (accepted log) (accepted other) v back, possible_among (accepted other) (accepted log) v to)
