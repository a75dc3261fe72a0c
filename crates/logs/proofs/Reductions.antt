-- Every reduced form of equations has the rows of their table, so that the table shows the solution and the kernel vectors.
use Rattle.std.proofs.Common.{◌≡◌, ℕ, zero, suc, ◌+◌, ◌<◌, Bool, true, false, not, eqb, ◌≢◌, ◌⊎◌, List, length, get_or, sym, ap, ◌∙◌, subst, ap₂, inl, inr, arith}
use native.Mathlib.Decide.{ℕ_discrete}
use Rattle.std.proofs.lemmas.Bool.{cases_Bool, cases_order, true≢false, not_from_true, not_from_false, eqb-true, eq-eqb, ne_eqb}
use Rattle.algebra.specs.Among.{among, member}
use Rattle.algebra.specs.Meaning.{Meaning}
use Rattle.algebra.specs.Operations.{operations, dot}
use Rattle.algebra.specs.Vectors.{Equation, row, entries, Vector, Sounds}
use Rattle.algebra.proofs.Sums.{sum_cong}
use Rattle.linear.specs.Field.{FieldOn, FieldLaws, ops}
use Rattle.linear.specs.Table.{unit, unit_same, unit_other, Free, Pivot, Reduced, Sat, kern}
use Rattle.linear.proofs.Identities.{one-*, zero-*, *-zero, +-neg, neg_zero, +-zero, from_less}
use Rattle.linear.proofs.Sums.{sum_zero, sum_single, dot_cong, dot_rows, dot_add, dot_neg}
use Rattle.linear.proofs.Solving.{fixed, kern_sat, val_sat}
use Rattle.linear.proofs.Uniqueness.{same_row, same_val}
use Rattle.linear.proofs.Among.{among_each, among_all, among_once, among_same, among_count, member_at, member_find}
use Rattle.linear.proofs.Codes.{Code, same_code, code, code_one, to_zero, from_zero, vec, field, code_ops}
use Rattle.linear.proofs.Systems.{tabulated, coef, value_of, Meets, meets_to, dot_vec, column_code, value_code}
use Rattle.linear.proofs.Systems.{listed, listed_vector, listed_at, listed_possible, vectors_same}
use Rattle.linear.proofs.Tables.{Tabled, tabled_to}
use Rattle.logs.specs.Offers.{Log, kept}
use Rattle.logs.specs.Reduced.{Built, Reduction}
use Rattle.logs.specs.Questions.{free, Solution, Kernel}
use Rattle.logs.specs.Logs.{Made}
use Rattle.logs.proofs.Histories.{made_sounds, possible_kept}
use Rattle.logs.proofs.Forming.{empty_at}

module _ (m : Meaning) (laws : FieldLaws m) (n : ℕ) where
  open (field m laws).ring.ops use {◌⊗◌}

  -- an equation that sound equations build holds where they do
  built_meets : (es : List Equation) (e : Equation) → Sounds m n es → Built m n es e
      → (v : ℕ → Code m) → Meets m laws n es v → dot (code_ops m laws) n (vec m laws e.coefficients) v ≡ code m laws e.value
  built_meets es e sd b v h =
      sum_cong (code_ops m laws) n _ _
      (λ j l. ap (λ x. x ⊗ v j) (ap (code m laws) (sym (b.1.columns j l)) ∙ (column_code m laws n b.0 es b.1.codes sd j).1))
      ∙ dot_rows (field m laws).ring n (length es) (vec m laws b.0) (coef m laws n es) v
      ∙ dot_cong (field m laws).ring (length es) (vec m laws b.0) _ _ h
      ∙ sym (value_code m laws n b.0 es b.1.codes sd).1
      ∙ ap (code m laws) b.2

module _ {K : Type 0} (F : FieldOn K) (n : ℕ) (R : ℕ → ℕ → K) (val : ℕ → K) where
  open F.ring.ops use {𝟘, 𝟙, ◌⊕◌, ⊖}

  -- the kernel vector of a free column is 1 at it, and 0 at the others
  kern_one : (f : ℕ) → R f f ≡ 𝟘 → kern F R f f ≡ 𝟙
  kern_one f e = ap₂ (λ x y. x ⊕ ⊖ y) (unit_same (ops F) f) e ∙ ap (λ x. 𝟙 ⊕ x) (neg_zero F.ring) ∙ +-zero F.ring 𝟙

  kern_zero : (f c : ℕ) → c ≢ f → R c f ≡ 𝟘 → kern F R f c ≡ 𝟘
  kern_zero f c ne e = ap₂ (λ x y. x ⊕ ⊖ y) (unit_other (ops F) f c ne) e ∙ +-neg F.ring 𝟘

  -- vectors with the same entries at the free columns and the same values in the rows are the same
  fixed_by_free : Reduced F n R val → (u v : ℕ → K) → ((c : ℕ) → c < n → Free F n R val c → u c ≡ v c)
      → ((p : ℕ) → p < n → dot (ops F) n (R p) u ≡ dot (ops F) n (R p) v) → (c : ℕ) → c < n → u c ≡ v c
  fixed_by_free red u v h e c l =
      from_less F.ring (u c) (v c)
      (sym (fixed F n R val red (λ i. u i ⊕ ⊖ (v i)) (λ i k fr. ap (λ x. x ⊕ ⊖ (v i)) (h i k fr) ∙ +-neg F.ring (v i)) c l)
      ∙ dot_add F.ring n (R c) u (λ i. ⊖ (v i)) ∙ ap₂ ◌⊕◌ (e c l) (dot_neg F.ring n (R c) v)
      ∙ +-neg F.ring (dot (ops F) n (R c) v))

-- what a table shows
module _ (m : Meaning) (laws : FieldLaws m) (n : ℕ) (es : List Equation) (t : Tabled m laws n es) where
  open (field m laws).ring.ops use {𝟘, 𝟙}

  abbrev Fd : FieldOn (Code m)
  Fd = field m laws

  -- the columns with an empty slot, rising
  abbrev pub empty : ℕ → Bool
  empty p = eqb (t.row_of p p).0 0

  abbrev pub free_of : List ℕ
  free_of = among empty 0 n

  abbrev pub free_column : ℕ → ℕ
  free_column k = get_or free_of k 0

  -- the vector of the values, and the kernel vector of the k-th free column
  abbrev pub solution_of : List ℕ
  solution_of = listed m laws n t.val_of

  abbrev pub kern_of : ℕ → ℕ → Code m
  kern_of k = kern (field m laws) t.row_of (free_column k)

  abbrev pub kernel_of : ℕ → List ℕ
  kernel_of k = listed m laws n (kern_of k)

  pub empty_is : (p : ℕ) → (empty p ≡ true → t.row_of p p ≡ 𝟘) × (t.row_of p p ≡ 𝟘 → empty p ≡ true)
  empty_is p = ((λ e. same_code m _ _ (eqb-true (t.row_of p p).0 0 e)), (λ e. eq-eqb (t.row_of p p).0 0 (ap (λ c. c.0) e)))

  pub free_many : length free_of + length es ≡ n
  free_many = let c = among_count Fd empty t.row_of 0 n (λ p a b. empty_is p) in let f = t.few in omega arith

  -- the place of a free column
  pub free_place : (c : ℕ) → c < n → t.row_of c c ≡ 𝟘 → (x : ℕ) × (x < length free_of) × (free_column x ≡ c)
  free_place c l e = among_all empty 0 n c (omega arith) (omega arith) ((empty_is c).1 e)

  -- and the column at a place
  pub free_column_lem : (x : ℕ) → x < length free_of → (free_column x < n) × Free (field m laws) n t.row_of t.val_of (free_column x)
  free_column_lem x l =
      let u = among_each empty 0 n x l in
      let b : free_column x < n = omega (arith, u.1) in
      (b, empty_at m laws n es t (free_column x) b ((empty_is (free_column x)).0 u.2))

  pub kern_here : (x : ℕ) → x < length free_of → kern_of x (free_column x) ≡ 𝟙
  kern_here x l = let u = free_column_lem x l in kern_one Fd n t.row_of t.val_of (free_column x) (u.1.row (free_column x) u.0)

  pub kern_there : (x y : ℕ) → x < length free_of → y < length free_of → y ≢ x → kern_of x (free_column y) ≡ 𝟘
  kern_there x y lx ly ne =
      kern_zero Fd n t.row_of t.val_of (free_column x) (free_column y) (λ e. ne (among_once empty 0 n y x ly lx e))
      ((free_column_lem y ly).1.row (free_column x) (free_column_lem x lx).0)

  pub kern_flat : (x : ℕ) → x < length free_of → (q : ℕ) → q < n → dot (code_ops m laws) n (t.row_of q) (kern_of x) ≡ 𝟘
  kern_flat x l = kern_sat Fd n t.row_of t.val_of t.reduced (free_column x) (free_column_lem x l).0

  free_fix : (u v : ℕ → Code m) → ((x : ℕ) → x < length free_of → u (free_column x) ≡ v (free_column x))
      → ((q : ℕ) → q < n → dot (code_ops m laws) n (t.row_of q) u ≡ dot (code_ops m laws) n (t.row_of q) v)
      → (c : ℕ) → c < n → u c ≡ v c
  free_fix u v h =
      fixed_by_free Fd n t.row_of t.val_of t.reduced u v
      (λ c l fr. let x = free_place c l (fr.row c l) in ap u (sym x.2) ∙ h x.0 x.1 ∙ ap v x.2)

  -- any reduced form of the same equations
  module _ (sd : Sounds m n es) (p : Reduction m n es) where
    open (field m laws).ring.ops use {◌⊗◌}
    open field m laws use {one_ne}

    abbrev len : ℕ
    len = length p.pivots

    abbrev piv : ℕ → ℕ
    piv i = get_or p.pivots i 0

    abbrev coefs : ℕ → ℕ → Code m
    coefs = coef m laws n p.rows

    row_below : (i : ℕ) → i < len → i < length p.rows
    row_below i l = let e = p.form.echelon.long in omega arith

    rising : (i k : ℕ) → i < k → k < len → piv i < piv k
    rising i zero l h = absurd (omega arith)
    rising i (suc k) l h = go (ℕ_discrete i k) (rising i k)
      where
        go : Dec (i ≡ k) → (i < k → k < len → piv i < piv k) → piv i < piv (suc k)
        go (yes e) ih = rw e (p.form.echelon.rising k h)
        go (no ne) ih = let a = ih (omega arith) (omega arith) in let b = p.form.echelon.rising k h in omega arith

    once : (i k : ℕ) → i < len → k < len → piv i ≡ piv k → i ≡ k
    once i k li lk e = go (cases_order i k)
      where
        go : (i ≡ k) ⊎ ((i < k) ⊎ (k < i)) → i ≡ k
        go (inl s) = s
        go (inr (inl s)) = absurd (let z = rising i k s lk in omega arith)
        go (inr (inr s)) = absurd (let z = rising k i s li in omega arith)

    -- one number from each row, put in the slot of its pivot
    abbrev slotted : (ℕ → Code m) → ℕ → Code m
    slotted f j = dot (code_ops m laws) len (λ i. unit (code_ops m laws) (piv i) j) f

    slotted_at : (f : ℕ → Code m) (k : ℕ) → k < len → slotted f (piv k) ≡ f k
    slotted_at f k l =
        sum_single Fd.ring len (λ i. unit (code_ops m laws) (piv i) (piv k) ⊗ f i) k l
        (λ i li ne. ap (λ x. x ⊗ f i) (unit_other (code_ops m laws) (piv i) (piv k) (λ e. ne (sym (once k i l li e)))) ∙ zero-* Fd.ring (f i))
        ∙ ap (λ x. x ⊗ f k) (unit_same (code_ops m laws) (piv k)) ∙ one-* Fd.ring (f k)

    slotted_none : (f : ℕ → Code m) (j : ℕ) → ((k : ℕ) → k < len → piv k ≢ j) → slotted f j ≡ 𝟘
    slotted_none f j h =
        sum_zero Fd.ring len _ (λ i l. ap (λ x. x ⊗ f i) (unit_other (code_ops m laws) (piv i) j (λ e. h i l (sym e))) ∙ zero-* Fd.ring (f i))

    -- the rows as a table
    row_in : ℕ → ℕ → Code m
    row_in j c = slotted (λ i. coefs i c) j

    value_in : ℕ → Code m
    value_in = slotted (value_of m laws n p.rows)

    abbrev Leads : ℕ → Type 0
    Leads j = (k : ℕ) × (k < len) × (piv k ≡ j)

    unled : (j : ℕ) → member j p.pivots ≡ false → (k : ℕ) → k < len → piv k ≢ j
    unled j f k l e = true≢false (sym (member_at p.pivots k l) ∙ ap (λ x. member x p.pivots) e ∙ f)

    led : (j : ℕ) → Leads j ⊎ ((k : ℕ) → k < len → piv k ≢ j)
    led j = go (cases_Bool (member j p.pivots))
      where
        go : (member j p.pivots ≡ true) ⊎ (member j p.pivots ≡ false) → Leads j ⊎ ((k : ℕ) → k < len → piv k ≢ j)
        go (inl y) = inl (member_find j p.pivots y)
        go (inr f) = inr (unled j f)

    lead_one : (k : ℕ) → k < len → coefs k (piv k) ≡ 𝟙
    lead_one k l = ap (code m laws) (p.form.echelon.leads k l).one ∙ code_one m laws

    reduced : Reduced Fd n row_in value_in
    unfolding row_in value_in
    reduced j l = go (led j)
      where
        go : Leads j ⊎ ((k : ℕ) → k < len → piv k ≢ j) → Free Fd n row_in value_in j ⊎ Pivot Fd n row_in j
        go (inr h) = inl (record { row = λ c k. slotted_none (λ i. coefs i c) j h; value = slotted_none (value_of m laws n p.rows) j h })
        go (inl u) = inr (subst (Pivot Fd n row_in) u.2 pivot)
          where
            k : ℕ
            k = u.0

            term : (q : ℕ) → ¬ (q ≡ piv k) → (i : ℕ) → i < len → Dec (i ≡ k) → unit (code_ops m laws) (piv i) q ⊗ coefs i (piv k) ≡ 𝟘
            term q ne i li (yes e) =
                ap (λ x. x ⊗ coefs i (piv k)) (unit_other (code_ops m laws) (piv i) q (λ s. ne (s ∙ ap piv e))) ∙ zero-* Fd.ring (coefs i (piv k))
            term q ne i li (no d) =
                ap (λ x. unit (code_ops m laws) (piv i) q ⊗ x) (from_zero m laws _ (p.form.echelon.alone k i u.1 li (λ s. d (sym s))))
                ∙ *-zero Fd.ring (unit (code_ops m laws) (piv i) q)

            pivot : Pivot Fd n row_in (piv k)
            pivot = record {
              lead = slotted_at (λ i. coefs i (piv k)) k u.1 ∙ lead_one k u.1;
              before = λ c b. slotted_at (λ i. coefs i c) k u.1 ∙ from_zero m laws _ ((p.form.echelon.leads k u.1).before c b);
              others = λ q lq ne. sum_zero Fd.ring len _ (λ i li. term q ne i li (ℕ_discrete i k));
            }

    -- a vector satisfies the table if and only if it meets the rows
    rows_sat : (v : ℕ → Code m) → Meets m laws n p.rows v → Sat Fd n row_in value_in v
    unfolding row_in value_in
    rows_sat v h j l =
        dot_rows Fd.ring n len (λ i. unit (code_ops m laws) (piv i) j) coefs v
        ∙ dot_cong Fd.ring len (λ i. unit (code_ops m laws) (piv i) j) _ _ (λ i li. h i (row_below i li))

    sat_rows : (v : ℕ → Code m) → Sat Fd n row_in value_in v → Meets m laws n p.rows v
    unfolding row_in value_in
    sat_rows v h k lk =
        let l : k < len = let e = p.form.echelon.long in omega arith in
        sum_cong (code_ops m laws) n _ _ (λ c lc. ap (λ x. x ⊗ v c) (sym (slotted_at (λ i. coefs i c) k l)))
        ∙ h (piv k) (p.form.echelon.leads k l).inside
        ∙ slotted_at (value_of m laws n p.rows) k l

    -- the table of the equations has these rows
    to_rows : (v : ℕ → Code m) → Sat Fd n t.row_of t.val_of v → Sat Fd n row_in value_in v
    to_rows v h = rows_sat v (λ i l. built_meets m laws n es (row p.rows i) sd (p.form.from_equations i l) v (t.back v h))

    from_rows : (v : ℕ → Code m) → Sat Fd n row_in value_in v → Sat Fd n t.row_of t.val_of v
    from_rows v h =
        tabled_to m laws n es t v (λ i l. built_meets m laws n p.rows (row es i) p.form.sound (p.form.to_equations i l) v (sat_rows v h))

    same_rows : (j : ℕ) → j < n → (c : ℕ) → c < n → t.row_of j c ≡ row_in j c
    same_rows = same_row Fd n t.row_of row_in t.val_of value_in t.reduced reduced to_rows from_rows

    pub row_is : (k : ℕ) → k < length p.pivots → (c : ℕ) → c < n
        → vec m laws (row p.rows k).coefficients c ≡ t.row_of (get_or p.pivots k 0) c
    unfolding row_in
    row_is k l c lc = sym (slotted_at (λ i. coefs i c) k l) ∙ sym (same_rows (piv k) (p.form.echelon.leads k l).inside c lc)

    pub value_is : (k : ℕ) → k < length p.pivots → code m laws (row p.rows k).value ≡ t.val_of (get_or p.pivots k 0)
    unfolding value_in
    value_is k l =
        sym (slotted_at (value_of m laws n p.rows) k l)
        ∙ sym
        (same_val Fd n t.row_of row_in t.val_of value_in t.reduced reduced to_rows from_rows (piv k) (p.form.echelon.leads k l).inside)

    -- a column has an empty slot if and only if no row leads at it
    pub no_pivot : (j : ℕ) → j < n → not (member j p.pivots) ≡ empty j
    unfolding row_in
    no_pivot j l = go (cases_Bool (member j p.pivots))
      where
        go : (member j p.pivots ≡ true) ⊎ (member j p.pivots ≡ false) → not (member j p.pivots) ≡ empty j
        go (inl y) =
            let u = member_find j p.pivots y in
            let one = row_is u.0 u.1 (piv u.0) (rw u.2 l) ∙ ap (λ x. t.row_of x x) u.2 in
            not_from_true _ y ∙ sym (ne_eqb (t.row_of j j).0 0 (λ e. one_ne (sym (lead_one u.0 u.1) ∙ one ∙ same_code m _ _ e)))
        go (inr f) =
            not_from_false _ f
            ∙ sym ((empty_is j).1 (same_rows j l j l ∙ slotted_none (λ i. coefs i j) j (unled j f)))

    pub free_same : free n p.pivots ≡ free_of
    free_same = among_same (λ i. not (member i p.pivots)) empty 0 n (λ i a b. no_pivot i (omega arith))

    -- the rows are 0 at a vector if and only if the table's are
    pub rows_zero : (v : List ℕ) → Vector m n v
        → ((i : ℕ) → i < length p.rows → dot (operations m) (length v) (entries (row p.rows i).coefficients) (entries v) ≡ 0)
        → (j : ℕ) → j < n → dot (code_ops m laws) n (t.row_of j) (vec m laws v) ≡ 𝟘
    unfolding row_in
    rows_zero v hv h j l =
        sum_cong (code_ops m laws) n _ _ (λ c lc. ap (λ x. x ⊗ vec m laws v c) (same_rows j l c lc))
        ∙ dot_rows Fd.ring n len (λ i. unit (code_ops m laws) (piv i) j) coefs (vec m laws v)
        ∙ sum_zero Fd.ring len _
        (λ i li.
        let b = row_below i li in
        ap (λ x. unit (code_ops m laws) (piv i) j ⊗ x)
        (sym (dot_vec m laws n (row p.rows i).coefficients v (p.form.sound i b).coefficients.codes hv).1 ∙ from_zero m laws _ (h i b))
        ∙ *-zero Fd.ring (unit (code_ops m laws) (piv i) j))

    pub zero_rows : (v : List ℕ) → Vector m n v → ((j : ℕ) → j < n → dot (code_ops m laws) n (t.row_of j) (vec m laws v) ≡ 𝟘)
        → (i : ℕ) → i < length p.rows → dot (operations m) (length v) (entries (row p.rows i).coefficients) (entries v) ≡ 0
    zero_rows v hv h i li =
        let l : i < len = let e = p.form.echelon.long in omega arith in
        let u = dot_vec m laws n (row p.rows i).coefficients v (p.form.sound i li).coefficients.codes hv in
        to_zero m laws _ u.0
        (u.1 ∙ sum_cong (code_ops m laws) n _ _ (λ c lc. ap (λ x. x ⊗ vec m laws v c) (row_is i l c lc))
        ∙ h (piv i) (p.form.echelon.leads i l).inside)

  -- the number of free columns of a reduced form
  pub free_count : Sounds m n es → (p : Reduction m n es) → length (free n p.pivots) + length es ≡ n
  free_count sd p = rw (free_same sd p) free_many

-- what a reduced form may answer after a log
module _ (m : Meaning) (laws : FieldLaws m) (n : ℕ) (log : Log) (md : Made m n log) (t : Tabled m laws n (kept log)) (p : Reduction m n (kept log)) where
  abbrev es : List Equation
  es = kept log

  abbrev fr : ℕ → ℕ
  fr = free_column m laws n es t

  abbrev many : ℕ
  many = length (free_of m laws n es t)

  frees : free n p.pivots ≡ free_of m laws n es t
  frees = free_same m laws n es t (made_sounds md) p

  values_sat : Sat (field m laws) n t.row_of t.val_of t.val_of
  values_sat = val_sat (field m laws) n t.row_of t.val_of t.reduced

  -- the solution is the vector of the values
  pub solution_is : (v : List ℕ) → Solution m n log p v → v ≡ solution_of m laws n (kept log) t
  solution_is v s =
      vectors_same m laws n v (solution_of m laws n es t) s.possible.vector (listed_vector m laws n t.val_of)
      (λ j l. free_fix m laws n es t (vec m laws v) t.val_of at_free (λ q k. sat q k ∙ sym (values_sat q k)) j l ∙ sym (listed_at m laws n t.val_of j l))
    where
      zeros : (k : ℕ) → k < many → entries v (fr k) ≡ 0
      zeros = subst (λ fs. (k : ℕ) → k < length fs → entries v (get_or fs k 0) ≡ 0) frees s.zeros

      at_free : (x : ℕ) → x < many → vec m laws v (fr x) ≡ t.val_of (fr x)
      at_free x l = from_zero m laws (entries v (fr x)) (zeros x l) ∙ sym (free_column_lem m laws n es t x l).1.value

      sat : Sat (field m laws) n t.row_of t.val_of (vec m laws v)
      sat = tabled_to m laws n es t (vec m laws v) (meets_to m laws n es v (made_sounds md) ((possible_kept md v).0 s.possible))

  pub is_solution_lem : Solution m n log p (solution_of m laws n (kept log) t)
  is_solution_lem = record {
    possible =
        (possible_kept md (solution_of m laws n es t)).1
        (listed_possible m laws n es t.val_of (made_sounds md) (t.back t.val_of values_sat));
    zeros =
        subst (λ fs. (k : ℕ) → k < length fs → entries (solution_of m laws n es t) (get_or fs k 0) ≡ 0) (sym frees)
        (λ k l. let u = free_column_lem m laws n es t k l in tabulated (λ i. (t.val_of i).0) n (fr k) u.0 ∙ ap (λ c. c.0) u.1.value);
  }

  module _ (k : ℕ) (lk : k < length (free_of m laws n (kept log) t)) where
    abbrev kv : ℕ → Code m
    kv = kern_of m laws n es t k

    -- kernel vector k is the one of the k-th free column
    pub kernel_is : (v : List ℕ) → Kernel m n log p k v → v ≡ kernel_of m laws n (kept log) t k
    kernel_is v s =
        vectors_same m laws n v (kernel_of m laws n es t k) s.vector (listed_vector m laws n kv)
        (λ j l. free_fix m laws n es t (vec m laws v) kv (λ x lx. at_free x lx (ℕ_discrete x k)) flat j l ∙ sym (listed_at m laws n kv j l))
      where
        one : entries v (fr k) ≡ 1
        one = subst (λ fs. entries v (get_or fs k 0) ≡ 1) frees s.one

        zeros : (x : ℕ) → x < many → x ≢ k → entries v (fr x) ≡ 0
        zeros = subst (λ fs. (x : ℕ) → x < length fs → x ≢ k → entries v (get_or fs x 0) ≡ 0) frees s.zeros

        at_free : (x : ℕ) → x < many → Dec (x ≡ k) → vec m laws v (fr x) ≡ kv (fr x)
        at_free x lx (yes e) = rw e (ap (code m laws) one ∙ code_one m laws ∙ sym (kern_here m laws n es t k lk))
        at_free x lx (no ne) = from_zero m laws (entries v (fr x)) (zeros x lx ne) ∙ sym (kern_there m laws n es t k x lk lx ne)

        flat : (q : ℕ) → q < n → dot (code_ops m laws) n (t.row_of q) (vec m laws v) ≡ dot (code_ops m laws) n (t.row_of q) kv
        flat q l = rows_zero m laws n es t (made_sounds md) p v s.vector s.rows q l ∙ sym (kern_flat m laws n es t k lk q l)

    pub is_kernel_lem : Kernel m n log p k (kernel_of m laws n (kept log) t k)
    is_kernel_lem = record {
      vector = listed_vector m laws n kv;
      one = subst (λ fs. entries (kernel_of m laws n es t k) (get_or fs k 0) ≡ 1) (sym frees) (at_free k lk ∙ ap (λ c. c.0) (kern_here m laws n es t k lk));
      zeros =
          subst (λ fs. (x : ℕ) → x < length fs → x ≢ k → entries (kernel_of m laws n es t k) (get_or fs x 0) ≡ 0) (sym frees)
          (λ x lx ne. at_free x lx ∙ ap (λ c. c.0) (kern_there m laws n es t k x lk lx ne));
      rows =
          zero_rows m laws n es t (made_sounds md) p (kernel_of m laws n es t k) (listed_vector m laws n kv)
          (λ q l. dot_cong (field m laws).ring n (t.row_of q) _ kv (listed_at m laws n kv) ∙ kern_flat m laws n es t k lk q l);
    }
      where
        at_free : (x : ℕ) → x < many → entries (kernel_of m laws n es t k) (fr x) ≡ (kv (fr x)).0
        at_free x l = tabulated (λ i. (kv i).0) n (fr x) (free_column_lem m laws n es t x l).0
