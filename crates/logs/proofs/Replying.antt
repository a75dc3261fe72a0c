-- Each published question has one reply, and logs that leave the same vectors possible have the same.
use Rattle.std.proofs.Common.{◌≡◌, ℕ, ◌-◌, ◌<◌, Bool, true, false, cond, eqb, ltb, ◌≢◌, ◌⊎◌, List, length, get_or, Ok, Err, Result, sym, refl, ap, ◌∙◌, subst, inl, inr, arith}
use Rattle.std.proofs.lemmas.List.FromFn.{fill_by_all}
use Rattle.std.proofs.lemmas.Bool.{cases_order, ltb-true}
use Rattle.algebra.specs.Meaning.{Meaning}
use Rattle.algebra.specs.Outcome.{unless_refused}
use Rattle.logs.specs.declared.refusal.Refusal.{Refusal}
use Rattle.algebra.specs.Vectors.{Equation, entries}
use Rattle.linear.specs.Field.{FieldOn, FieldLaws}
use Rattle.linear.specs.Table.{unit, Sat}
use Rattle.linear.proofs.Identities.{cancel, +-zero, *-zero}
use Rattle.linear.proofs.Sums.{sum_zero, dot_comm, dot_unit}
use Rattle.linear.proofs.Uniqueness.{same_row, same_val}
use Rattle.linear.proofs.Among.{among_same}
use Rattle.linear.proofs.FirstNonzero.{First, first}
use Rattle.linear.proofs.Codes.{Code, same_code, code_is, codes_at, vec, field, code_ops}
use Rattle.linear.proofs.Systems.{tabulated, meets_to, listed, listed_vector, listed_possible, possible_listed}
use Rattle.linear.proofs.Tables.{Tabled, tabled_to}
use Rattle.logs.specs.declared.answer.Symbol.{Symbol}
use Rattle.logs.specs.declared.answer.Symbol.TheVariants.{Known, Open}
use Rattle.logs.specs.Offers.{Log, kept, PossibleAfter}
use Rattle.logs.specs.Reduced.{Reduction}
use Rattle.logs.specs.Questions.{free, solution_checked, kernel_checked, unknown_checked, Tells}
use Rattle.logs.specs.Questions.{Question, solution, kernel, unknown, Reply, wrote, said, Replies, Answers}
use Rattle.logs.specs.Logs.{Made}
use Rattle.logs.specs.Promises.{LeaveTheSame}
use Rattle.logs.proofs.Checking.{err_ok}
use Rattle.logs.proofs.Histories.{made_sounds, made_tabled, possible_kept}
use Rattle.logs.proofs.Forming.{tabled_reduction}
use Rattle.logs.proofs.Reductions.{empty, free_of, free_column, solution_of, kern_of, kernel_of, free_many, free_column_lem, free_same}
use Rattle.logs.proofs.Reductions.{solution_is, is_solution_lem, kernel_is, is_kernel_lem}
use Rattle.logs.proofs.Spanning.{span, span_sat, sat_span}

-- a check that passed
passed : (b : Bool) (r : Result (Unit {0}) Refusal) (e : Refusal) → cond b r (Err e) ≡ Ok tt → b ≡ true
passed true r e h = refl
passed false r e h = absurd (err_ok h)

kernel_passed : (n rank k l : ℕ) → kernel_checked n rank k l ≡ Ok tt → k < n - rank
kernel_passed n rank k l h = ltb-true k (n - rank) (passed (ltb k (n - rank)) (solution_checked n l) _ h)

unknown_passed : (n j : ℕ) → unknown_checked n j ≡ Ok tt → j < n
unknown_passed n j h = ltb-true j n (passed (ltb j n) (Ok tt) _ h)

-- the symbol, unless the question is refused
abbrev pub or_refused : Result (Unit {0}) Refusal → Symbol → Result Symbol Refusal
or_refused (Ok u) s = Ok s
or_refused (Err e) s = Err e

-- what a table tells of an unknown
module _ (m : Meaning) (laws : FieldLaws m) (n : ℕ) (es : List Equation) (t : Tabled m laws n es) where
  open (field m laws).ring.ops use {𝟘}

  -- all kernel vectors are 0 at it, or the first that is not has number k
  abbrev pub Shows : ℕ → Symbol → Type 0
  Shows j (Known c) =
      ((t.val_of j).0 ≡ c) × ((x : ℕ) → x < length (free_of m laws n es t) → kern_of m laws n es t x j ≡ 𝟘)
  Shows j (Open k) =
      (k < length (free_of m laws n es t))
      × (kern_of m laws n es t k j ≢ 𝟘)
      × ((x : ℕ) → x < k → kern_of m laws n es t x j ≡ 𝟘)

  pub shown : (j : ℕ) → (s : Symbol) × Shows j s
  shown j = go (first (field m laws) (λ x. kern_of m laws n es t x j) (length (free_of m laws n es t)))
    where
      go : ((x : ℕ) → x < length (free_of m laws n es t) → kern_of m laws n es t x j ≡ 𝟘)
          ⊎ First (field m laws) (λ x. kern_of m laws n es t x j) (length (free_of m laws n es t)) → (s : Symbol) × Shows j s
      go (inl h) = (Known (t.val_of j).0, (refl, h))
      go (inr f) = (Open f.0, (f.1, f.2, f.3))

  pub one_shown : (j : ℕ) (r s : Symbol) → Shows j r → Shows j s → r ≡ s
  one_shown j (Known c) (Known d) f g = ap Known (sym f.0 ∙ g.0)
  one_shown j (Known c) (Open k) f g = absurd (g.1 (f.1 k g.0))
  one_shown j (Open k) (Known d) f g = absurd (f.1 (g.1 k f.0))
  one_shown j (Open k) (Open l) f g = go (cases_order k l)
    where
      go : (k ≡ l) ⊎ ((k < l) ⊎ (l < k)) → Open k ≡ Open l
      go (inl e) = ap Open e
      go (inr (inl b)) = absurd (f.1 (g.2 k b))
      go (inr (inr b)) = absurd (g.1 (f.2 l b))

  -- the reply that the table gives
  abbrev pub reply_of : Question → Reply
  reply_of (solution s) = wrote (solution_checked n (length s)) (unless_refused (solution_checked n (length s)) (solution_of m laws n es t) s)
  reply_of (kernel k s) =
      wrote (kernel_checked n (length es) k (length s)) (unless_refused (kernel_checked n (length es) k (length s)) (kernel_of m laws n es t k) s)
  reply_of (unknown j) = said (or_refused (unknown_checked n j) (shown j).0)

-- what a reduced form tells of an unknown after a log
module _ (m : Meaning) (laws : FieldLaws m) (n : ℕ) (log : Log) (md : Made m n log) (t : Tabled m laws n (kept log)) (p : Reduction m n (kept log))
    (j : ℕ) (lj : j < n) where
  open (field m laws).ring.ops use {𝟘, ◌⊕◌, ◌⊗◌}

  abbrev Fd : FieldOn (Code m)
  Fd = field m laws

  abbrev es : List Equation
  es = kept log

  abbrev kv : ℕ → ℕ → Code m
  kv = kern_of m laws n es t

  abbrev many : ℕ
  many = length (free_of m laws n es t)

  entry_at : (v : ℕ → Code m) → entries (listed m laws n v) j ≡ (v j).0
  entry_at v = tabulated (λ i. (v i).0) n j lj

  -- a vector that satisfies the table is possible
  sat_possible : (v : ℕ → Code m) → Sat Fd n t.row_of t.val_of v → PossibleAfter m n log (listed m laws n v)
  sat_possible v h = (possible_kept md (listed m laws n v)).1 (listed_possible m laws n es v (made_sounds md) (t.back v h))

  frees : free n p.pivots ≡ free_of m laws n es t
  frees = free_same m laws n es t (made_sounds md) p

  -- the solution moved by one kernel vector
  moved : (x : ℕ) → x < many → span m laws n es t (unit (code_ops m laws) x) j ≡ t.val_of j ⊕ kv x j
  moved x l =
      ap (λ y. t.val_of j ⊕ y)
      (dot_comm Fd.ring many (unit (code_ops m laws) x) (λ x. kv x j) ∙ dot_unit Fd.ring many (λ x. kv x j) x l)

  pub tells_shows : (s : Symbol) → Tells m n log p j s → Shows m laws n (kept log) t j s
  tells_shows (Known c) h = (
    value,
    (λ x l.
        cancel Fd.ring (t.val_of j) (kv x j) 𝟘
        (sym (moved x l)
        ∙ same_code m _ _
        (sym (entry_at (span m laws n es t (unit (code_ops m laws) x)))
        ∙ h _ (sat_possible (span m laws n es t (unit (code_ops m laws) x)) (span_sat m laws n es t (unit (code_ops m laws) x))) ∙ sym value)
        ∙ sym (+-zero Fd.ring (t.val_of j)))),
  )
    where
      value : (t.val_of j).0 ≡ c
      value = sym (entry_at t.val_of) ∙ h (solution_of m laws n es t) (is_solution_lem m laws n log md t p).possible
  tells_shows (Open k) h = (
    lk,
    (λ e. h.1 (kernel_of m laws n es t k) (is_kernel_lem m laws n log md t p k lk) (entry_at (kv k) ∙ ap (λ c. c.0) e)),
    (λ x l.
        same_code m _ _
        (sym (entry_at (kv x)) ∙ h.2 x (kernel_of m laws n es t x) l (is_kernel_lem m laws n log md t p x (let b = lk in omega arith)))),
  )
    where
      lk : k < many
      lk = subst (λ fs. k < length fs) frees h.0

  pub shows_tells : (s : Symbol) → Shows m laws n (kept log) t j s → Tells m n log p j s
  shows_tells (Known c) h = λ v pv.
      let sat = tabled_to m laws n es t (vec m laws v) (meets_to m laws n es v (made_sounds md) ((possible_kept md v).0 pv)) in
      sym (code_is m laws (entries v j) (codes_at m laws v pv.vector.codes j))
      ∙ ap (λ c. c.0)
      (sat_span m laws n es t (vec m laws v) sat j lj
      ∙ ap (λ y. t.val_of j ⊕ y) (sum_zero Fd.ring many _ (λ x l. ap (λ y. vec m laws v (free_column m laws n es t x) ⊗ y) (h.1 x l) ∙ *-zero Fd.ring _))
      ∙ +-zero Fd.ring (t.val_of j))
      ∙ h.0
  shows_tells (Open k) h = (
    subst (λ fs. k < length fs) (sym frees) h.0,
    (λ v s e.
        h.1
        (same_code m _ _
        (sym (entry_at (kv k)) ∙ ap (λ u. entries u j) (sym (kernel_is m laws n log md t p k h.0 v s)) ∙ e))),
    (λ x v l s.
        ap (λ u. entries u j) (kernel_is m laws n log md t p x (let b = h.0 in omega arith) v s)
        ∙ entry_at (kv x) ∙ ap (λ c. c.0) (h.2 x l)),
  )

-- after a log the table's reply is one, and the only one
module _ (m : Meaning) (laws : FieldLaws m) (n : ℕ) (log : Log) (md : Made m n log) (t : Tabled m laws n (kept log)) where
  place : (k l : ℕ) → kernel_checked n (length (kept log)) k l ≡ Ok tt → k < length (free_of m laws n (kept log) t)
  place k l e = let b = kernel_passed n (length (kept log)) k l e in let c = free_many m laws n (kept log) t in omega arith

  pub is_reply : (question : Question) → Answers m n log question (reply_of m laws n (kept log) t question)
  is_reply question = (reduction, go question)
    where
      reduction : Reduction m n (kept log)
      reduction = tabled_reduction m laws n (kept log) t (made_sounds md)

      solved : (s : List ℕ) (r : Result (Unit {0}) Refusal) → solution_checked n (length s) ≡ r
          → Replies m n log reduction (solution s) (wrote r (unless_refused r (solution_of m laws n (kept log) t) s))
      solved s (Ok u) e = (e, is_solution_lem m laws n log md t reduction)
      solved s (Err x) e = (e, refl)

      spanned : (k : ℕ) (s : List ℕ) (r : Result (Unit {0}) Refusal) → kernel_checked n (length (kept log)) k (length s) ≡ r
          → Replies m n log reduction (kernel k s) (wrote r (unless_refused r (kernel_of m laws n (kept log) t k) s))
      spanned k s (Ok u) e = (e, is_kernel_lem m laws n log md t reduction k (place k (length s) e))
      spanned k s (Err x) e = (e, refl)

      told : (j : ℕ) (r : Result (Unit {0}) Refusal) → unknown_checked n j ≡ r
          → Replies m n log reduction (unknown j) (said (or_refused r (shown m laws n (kept log) t j).0))
      told j (Ok u) e =
          (e, shows_tells m laws n log md t reduction j (unknown_passed n j e) (shown m laws n (kept log) t j).0 (shown m laws n (kept log) t j).1)
      told j (Err x) e = e

      go : (question : Question) → Replies m n log reduction question (reply_of m laws n (kept log) t question)
      go (solution s) = solved s (solution_checked n (length s)) refl
      go (kernel k s) = spanned k s (kernel_checked n (length (kept log)) k (length s)) refl
      go (unknown j) = told j (unknown_checked n j) refl

  pub reply_is : (question : Question) (a : Reply) → Answers m n log question a → a ≡ reply_of m laws n (kept log) t question
  reply_is (solution s) (wrote (Ok u) x) h =
      ap (wrote (Ok tt)) (solution_is m laws n log md t h.0 x h.1.1)
      ∙ ap (λ r. wrote r (unless_refused r (solution_of m laws n (kept log) t) s)) (sym h.1.0)
  reply_is (solution s) (wrote (Err e) x) h =
      ap (wrote (Err e)) h.1.1 ∙ ap (λ r. wrote r (unless_refused r (solution_of m laws n (kept log) t) s)) (sym h.1.0)
  reply_is (solution s) (said x) h = absurd h.1
  reply_is (kernel k s) (wrote (Ok u) x) h =
      ap (wrote (Ok tt)) (kernel_is m laws n log md t h.0 k (place k (length s) h.1.0) x h.1.1)
      ∙ ap (λ r. wrote r (unless_refused r (kernel_of m laws n (kept log) t k) s)) (sym h.1.0)
  reply_is (kernel k s) (wrote (Err e) x) h =
      ap (wrote (Err e)) h.1.1 ∙ ap (λ r. wrote r (unless_refused r (kernel_of m laws n (kept log) t k) s)) (sym h.1.0)
  reply_is (kernel k s) (said x) h = absurd h.1
  reply_is (unknown j) (wrote r x) h = absurd h.1
  reply_is (unknown j) (said (Ok x)) h =
      let told = shown m laws n (kept log) t j in
      ap (λ s. said (Ok s))
      (one_shown m laws n (kept log) t j x told.0 (tells_shows m laws n log md t h.0 j (unknown_passed n j h.1.0) x h.1.1) told.1)
      ∙ ap (λ r. said (or_refused r told.0)) (sym h.1.0)
  reply_is (unknown j) (said (Err e)) h = ap (λ r. said (or_refused r (shown m laws n (kept log) t j).0)) (sym h.1)

module _ (m : Meaning) (laws : FieldLaws m) (n : ℕ) (log : Log) (md : Made m n log) where
  pub log_answered : (question : Question) → (reply : Reply) × Answers m n log question reply
  log_answered question =
      let t = made_tabled m laws n md in
      (reply_of m laws n (kept log) t question, is_reply m laws n log md t question)

  pub one_reply : (question : Question) (a b : Reply) → Answers m n log question a → Answers m n log question b → a ≡ b
  one_reply question a b f g =
      let t = made_tabled m laws n md in
      reply_is m laws n log md t question a f ∙ sym (reply_is m laws n log md t question b g)

-- what satisfies the table of a log satisfies that of any log that leaves its vectors
across : (m : Meaning) (laws : FieldLaws m) (n : ℕ) (log other : Log) (md : Made m n log) (mo : Made m n other)
    (t : Tabled m laws n (kept log)) (u : Tabled m laws n (kept other))
    → ((v : List ℕ) → PossibleAfter m n log v → PossibleAfter m n other v)
    → (v : ℕ → Code m) → Sat (field m laws) n t.row_of t.val_of v → Sat (field m laws) n u.row_of u.val_of v
across m laws n log other md mo t u to v h =
    tabled_to m laws n (kept other) u v
    (possible_listed m laws n (kept other) v (made_sounds mo)
    ((possible_kept mo (listed m laws n v)).0
    (to (listed m laws n v)
    ((possible_kept md (listed m laws n v)).1 (listed_possible m laws n (kept log) v (made_sounds md) (t.back v h))))))

-- two logs that leave the same vectors possible
module _ (m : Meaning) (laws : FieldLaws m) (n : ℕ) (log other : Log) (md : Made m n log) (mo : Made m n other)
    (same : LeaveTheSame m log m other n) where
  open (field m laws).ring.ops use {𝟘, ◌⊕◌, ⊖}

  abbrev t : Tabled m laws n (kept log)
  t = made_tabled m laws n md

  abbrev u : Tabled m laws n (kept other)
  u = made_tabled m laws n mo

  rows_same : (p : ℕ) → p < n → (c : ℕ) → c < n → t.row_of p c ≡ u.row_of p c
  rows_same =
      same_row (field m laws) n t.row_of u.row_of t.val_of u.val_of t.reduced u.reduced
      (across m laws n log other md mo t u (λ v. (same v).0)) (across m laws n other log mo md u t (λ v. (same v).1))

  values_same : (p : ℕ) → p < n → t.val_of p ≡ u.val_of p
  values_same =
      same_val (field m laws) n t.row_of u.row_of t.val_of u.val_of t.reduced u.reduced
      (across m laws n log other md mo t u (λ v. (same v).0)) (across m laws n other log mo md u t (λ v. (same v).1))

  frees_same : free_of m laws n (kept log) t ≡ free_of m laws n (kept other) u
  frees_same =
      among_same (empty m laws n (kept log) t) (empty m laws n (kept other) u) 0 n
      (λ p a b. let l : p < n = omega arith in ap (λ c. eqb c.0 0) (rows_same p l p l))

  ranks_same : length (kept log) ≡ length (kept other)
  ranks_same =
      let a = free_many m laws n (kept log) t in
      let b = free_many m laws n (kept other) u in
      let c = ap length frees_same in
      omega arith

  kern_same : (x : ℕ) → x < length (free_of m laws n (kept log) t) → (j : ℕ) → j < n
      → kern_of m laws n (kept log) t x j ≡ kern_of m laws n (kept other) u x j
  kern_same x l j lj =
      ap (λ y. unit (code_ops m laws) (free_column m laws n (kept log) t x) j ⊕ ⊖ y) (rows_same j lj _ (free_column_lem m laws n (kept log) t x l).0)
      ∙ ap (λ fs. unit (code_ops m laws) (get_or fs x 0) j ⊕ ⊖ (u.row_of j (get_or fs x 0))) frees_same

  listed_same : (f g : ℕ → Code m) → ((i : ℕ) → i < n → f i ≡ g i) → listed m laws n f ≡ listed m laws n g
  listed_same f g h =
      fill_by_all (λ i. (g i).0) (listed m laws n f) n 0 (listed_vector m laws n f).long
      (λ i l. tabulated (λ i. (f i).0) n i l ∙ ap (λ c. c.0) (h i l))

  shows_same : (j : ℕ) → j < n → (s : Symbol) → Shows m laws n (kept log) t j s → Shows m laws n (kept other) u j s
  shows_same j lj (Known c) h = (
    sym (ap (λ c. c.0) (values_same j lj)) ∙ h.0,
    (λ x l. let k = subst (λ fs. x < length fs) (sym frees_same) l in sym (kern_same x k j lj) ∙ h.1 x k),
  )
  shows_same j lj (Open k) h = (
    subst (λ fs. k < length fs) frees_same h.0,
    (λ e. h.1 (kern_same k h.0 j lj ∙ e)),
    (λ x l. sym (kern_same x (let b = h.0 in omega arith) j lj) ∙ h.2 x l),
  )

  reply_same : (question : Question) → reply_of m laws n (kept log) t question ≡ reply_of m laws n (kept other) u question
  reply_same (solution s) =
      ap (λ v. wrote (solution_checked n (length s)) (unless_refused (solution_checked n (length s)) v s)) (listed_same t.val_of u.val_of values_same)
  reply_same (kernel k s) =
      go (kernel_checked n (length (kept log)) k (length s)) refl
      ∙ ap (λ r. wrote (kernel_checked n r k (length s)) (unless_refused (kernel_checked n r k (length s)) (kernel_of m laws n (kept other) u k) s)) ranks_same
    where
      go : (r : Result (Unit {0}) Refusal) → kernel_checked n (length (kept log)) k (length s) ≡ r
          → wrote r (unless_refused r (kernel_of m laws n (kept log) t k) s) ≡ wrote r (unless_refused r (kernel_of m laws n (kept other) u k) s)
      go (Ok x) e =
          ap (wrote (Ok tt))
          (listed_same (kern_of m laws n (kept log) t k) (kern_of m laws n (kept other) u k) (kern_same k (place m laws n log md t k (length s) e)))
      go (Err x) e = refl
  reply_same (unknown j) = go (unknown_checked n j) refl
    where
      go : (r : Result (Unit {0}) Refusal) → unknown_checked n j ≡ r
          → said (or_refused r (shown m laws n (kept log) t j).0) ≡ said (or_refused r (shown m laws n (kept other) u j).0)
      go (Ok x) e =
          let a = shown m laws n (kept log) t j in
          let b = shown m laws n (kept other) u j in
          ap (λ s. said (Ok s)) (one_shown m laws n (kept other) u j a.0 b.0 (shows_same j (unknown_passed n j e) a.0 a.1) b.1)
      go (Err x) e = refl

  pub same_replies : (question : Question) (a b : Reply) → Answers m n log question a → Answers m n other question b → a ≡ b
  same_replies question a b f g =
      reply_is m laws n log md t question a f ∙ reply_same question ∙ sym (reply_is m laws n other mo u question b g)
