-- Equations on codes that were kept one by one have a reduced table, with weights that build it from them.
use Rattle.std.proofs.Common.{◌≡◌, ℕ, ◌+◌, ◌<◌, ◌≤◌, ◌⊎◌, List, [], ◌∷◌, ◌++◌, length, sym, refl, ap, ◌∙◌, ap₂, inl, inr, arith}
use Rattle.algebra.specs.Meaning.{Meaning}
use Rattle.algebra.specs.Operations.{sum, dot}
use Rattle.algebra.specs.Vectors.{Equation, row, Sound, Sounds, Satisfies, Possible}
use Rattle.algebra.proofs.Sums.{sum_cong}
use Rattle.linear.specs.Field.{FieldOn, FieldLaws}
use Rattle.linear.specs.Table.{unit, unit_other, Free, Pivot, Reduced, Sat, res, resv, kern}
use Rattle.linear.specs.Solutions.{frees}
use Rattle.linear.proofs.Identities.{units, *-zero, +-neg, cancel, +-zero, neg_neg, neg_zero}
use Rattle.linear.proofs.Sums.{sum_zero}
use Rattle.linear.proofs.Solving.{res_pivot, determined, open_row}
use Rattle.linear.proofs.Pivoting.{rows, vals, norm, q_free, norm_q, norm_zero, rows_q, rows_other, step_reduced, sat_step}
use Rattle.linear.proofs.FreeColumns.{frees_step, frees_none}
use Rattle.linear.proofs.FirstNonzero.{First, first}
use Rattle.linear.proofs.Weights.{left, step_builds, built_sat}
use Rattle.linear.proofs.Codes.{Code, code, vec, field, code_ops}
use Rattle.linear.proofs.Systems.{coef, value_of, Meets, meets_to, satisfies_to, satisfies_from, listed, listed_possible, listed_satisfies, each_more, row_before, row_last, length_more}

-- a step leaves one free column fewer
module _ {K : Type 0} (F : FieldOn K) (n : ℕ) (R : ℕ → ℕ → K) (val c : ℕ → K) (b : K) (q : ℕ)
    (red : Reduced F n R val) (lq : q < n) (nz : ¬ (res F n R c q ≡ F.ring.ops.𝟘)) (early : (i : ℕ) → i < q → res F n R c i ≡ F.ring.ops.𝟘) where
  open F.ring.ops use {𝟘, 𝟙, ◌⊕◌, ◌⊗◌, ⊖}
  open F use {one_ne}

  -- the new pivot
  one_at_q : rows F n R val c b q q q ≡ 𝟙
  one_at_q = rows_q F n R val c b q red lq nz early q lq ∙ norm_q F n R val c b q red lq nz early

  -- an old pivot keeps its 1
  pivot_stays : (p : ℕ) → p < n → ¬ (p ≡ q) → Pivot F n R p → rows F n R val c b q p p ≡ R p p
  pivot_stays p l ne pv =
      rows_other F n R val c b q red lq nz early p ne p
      ∙ stays (R p p) (R p q) (norm F n R val c b q p) (norm_zero F n R val c b q red lq nz early p (res_pivot F n R val red c p l pv))
    where
      stays : (x y z : K) → z ≡ 𝟘 → x ⊕ ⊖ (y ⊗ z) ≡ x
      stays x y z e = ap (λ w. x ⊕ ⊖ (y ⊗ w)) e ∙ simp units

  pub step_frees : frees F (rows F n R val c b q) 0 n + 1 ≡ frees F R 0 n
  step_frees =
      frees_step F R (rows F n R val c b q) 0 n q (omega arith) (omega arith)
      ((q_free F n R val c b q red lq nz early).row q lq) (λ e. one_ne (sym one_at_q ∙ e))
      (λ p l k ne. let t : p < n = omega arith in (to p t ne (red p t), back p t ne (red p t)))
    where
      there : (x y z : K) → x ≡ 𝟘 → y ≡ 𝟘 → x ⊕ ⊖ (y ⊗ z) ≡ 𝟘
      there x y z ex ey = ap₂ (λ a b. a ⊕ ⊖ (b ⊗ z)) ex ey ∙ simp units

      to : (p : ℕ) → p < n → ¬ (p ≡ q) → Free F n R val p ⊎ Pivot F n R p → R p p ≡ 𝟘 → rows F n R val c b q p p ≡ 𝟘
      to p l ne (inl fr) e =
          rows_other F n R val c b q red lq nz early p ne p ∙ there (R p p) (R p q) (norm F n R val c b q p) e (fr.row q lq)
      to p l ne (inr pv) e = absurd (one_ne (sym pv.lead ∙ e))

      back : (p : ℕ) → p < n → ¬ (p ≡ q) → Free F n R val p ⊎ Pivot F n R p → rows F n R val c b q p p ≡ 𝟘 → R p p ≡ 𝟘
      back p l ne (inl fr) e = fr.row p l
      back p l ne (inr pv) e = sym (pivot_stays p l ne pv) ∙ e

  -- a column that is free after the step is another one, and was free before
  pub step_free : (p : ℕ) → p < n → Free F n (rows F n R val c b q) (vals F n R val c b q) p → ¬ (p ≡ q) × Free F n R val p
  step_free p l fr = (other, go (red p l))
    where
      other : ¬ (p ≡ q)
      other e = one_ne (sym one_at_q ∙ ap (λ x. rows F n R val c b q x x) (sym e) ∙ fr.row p l)

      go : Free F n R val p ⊎ Pivot F n R p → Free F n R val p
      go (inl free) = free
      go (inr pv) = absurd (one_ne (sym pv.lead ∙ sym (pivot_stays p l other pv) ∙ fr.row p l))

-- (identities stand over an abstract field: at the field of codes its operations compute away)
module _ {K : Type 0} (F : FieldOn K) where
  open F.ring.ops use {𝟘, 𝟙, ◌⊕◌, ◌⊗◌, ⊖}

  less_zero : (x : K) → x ⊕ ⊖ 𝟘 ≡ x
  less_zero x = simp units

  difference : (x y : K) → x ⊕ ⊖ y ≡ x → y ≡ 𝟘
  difference x y a =
      sym (neg_neg F.ring y) ∙ ap ⊖ (cancel F.ring x (⊖ y) 𝟘 (a ∙ sym (+-zero F.ring x))) ∙ neg_zero F.ring

  pub none_added : (w k u l : K) → w ≡ 𝟘 → l ≡ 𝟘 → w ⊕ k ⊗ (u ⊗ l) ≡ 𝟘
  none_added w k u l ew el = ap₂ (λ x y. x ⊕ k ⊗ (u ⊗ y)) ew el ∙ simp units

  no_multiple : (w k a x : K) → w ≡ 𝟘 → k ≡ 𝟘 → a ≡ 𝟘 → w ⊕ (k ⊕ ⊖ a) ⊗ x ≡ 𝟘
  no_multiple w k a x ew ek ea = ap₂ (λ p r. w ⊕ (p ⊕ ⊖ r) ⊗ x) ek ea ∙ ap (λ z. z ⊕ (𝟘 ⊕ ⊖ 𝟘) ⊗ x) ew ∙ simp units

module _ (m : Meaning) (laws : FieldLaws m) (n : ℕ) where
  open (field m laws).ring.ops use {𝟘, 𝟙, ◌⊕◌, ◌⊗◌, ⊖}
  open field m laws use {dec}

  abbrev Fd : FieldOn (Code m)
  Fd = field m laws

  -- what weights make of one number from each equation
  abbrev pub made : List Equation → (ℕ → ℕ → Code m) → (ℕ → Code m) → ℕ → Code m
  made es weight_of f p = sum (code_ops m laws) (length es) (λ i. weight_of p i ⊗ f i)

  -- a reduced table that says what the equations say, with a pivot for each of them, and the weights that build it
  pub record Tabled (es : List Equation) : Type 0 where
    pub row_of : ℕ → ℕ → Code m
    pub val_of : ℕ → Code m
    pub weight_of : ℕ → ℕ → Code m
    pub reduced : Reduced (field m laws) n row_of val_of
    pub back : (v : ℕ → Code m) → Sat (field m laws) n row_of val_of v → Meets m laws n es v
    pub few : frees (field m laws) row_of 0 n + length es ≡ n
    pub builds : (p : ℕ) → p < n → (j : ℕ) → j < n → made es weight_of (λ i. coef m laws n es i j) p ≡ row_of p j
    pub values : (p : ℕ) → p < n → made es weight_of (value_of m laws n es) p ≡ val_of p
    pub fresh : (p : ℕ) → p < n → (i : ℕ) → length es ≤ i → weight_of p i ≡ 𝟘
    pub blank : (p : ℕ) → p < n → Free (field m laws) n row_of val_of p → (i : ℕ) → weight_of p i ≡ 𝟘

  pub tabled_few : (es : List Equation) → Tabled es → length es ≤ n
  tabled_few es t = let f = t.few in omega arith

  -- what meets the equations satisfies the table
  pub tabled_to : (es : List Equation) (t : Tabled es) (v : ℕ → Code m) → Meets m laws n es v → Sat (field m laws) n t.row_of t.val_of v
  tabled_to es t v h =
      built_sat Fd n (length es) t.weight_of (coef m laws n es) t.row_of (value_of m laws n es) t.val_of t.builds t.values v h

  unfoldable pub tabled_none : Tabled []
  tabled_none = record {
    row_of = λ p c. 𝟘;
    val_of = λ p. 𝟘;
    weight_of = λ p i. 𝟘;
    reduced = λ p l. inl (record { row = λ c k. refl; value = refl });
    back = λ v s i l. absurd (omega arith);
    few = let t = frees_none Fd 0 n in omega arith;
    builds = λ p l j k. refl;
    values = λ p l. refl;
    fresh = λ p l i k. refl;
    blank = λ p l fr i. refl;
  }

  module _ (es : List Equation) (t : Tabled es) (e : Equation) where
    -- what is left of the equation when the rows are taken out
    abbrev pub rest : ℕ → Code m
    rest = res (field m laws) n t.row_of (vec m laws e.coefficients)

    abbrev pub rest_value : Code m
    rest_value = resv (field m laws) n t.val_of (vec m laws e.coefficients) (code m laws e.value)

    -- the weights of what is left
    abbrev pub rest_weight : ℕ → Code m
    rest_weight = left (field m laws) n (length es) t.weight_of (vec m laws e.coefficients)

    module _ (f : First (field m laws) rest n) where
      abbrev c : ℕ → Code m
      c = vec m laws e.coefficients

      abbrev b : Code m
      b = code m laws e.value

      -- the table after the step at the first column that is left
      abbrev pub row_more : ℕ → ℕ → Code m
      row_more = rows (field m laws) n t.row_of t.val_of (vec m laws e.coefficients) (code m laws e.value) f.0

      abbrev pub val_more : ℕ → Code m
      val_more = vals (field m laws) n t.row_of t.val_of (vec m laws e.coefficients) (code m laws e.value) f.0

      abbrev pub weight_more : ℕ → ℕ → Code m
      weight_more p i =
          t.weight_of p i ⊕ kern (field m laws) t.row_of f.0 p ⊗ ((field m laws).inv (rest f.0) ⊗ rest_weight i)

      abbrev es' : List Equation
      es' = es ++ (e ∷ [])

      -- what the new weights make of one number from each equation
      pub more_made : (p : ℕ) → p < n → (g : Equation → Code m) (h : ℕ → Code m)
          → ((p : ℕ) → p < n → made es t.weight_of (λ i. g (row es i)) p ≡ h p)
          → made es' weight_more (λ i. g (row es' i)) p
          ≡ h p ⊕ kern Fd t.row_of f.0 p ⊗ (Fd.inv (rest f.0) ⊗ (g e ⊕ ⊖ (sum (code_ops m laws) n (λ p. c p ⊗ h p))))
      more_made p l g h old =
          ap (λ k. sum (code_ops m laws) k (λ i. weight_more p i ⊗ g (row es' i))) (length_more es e)
          ∙ step_builds Fd n (length es) t.weight_of c (λ p k. t.fresh p k (length es) (omega arith)) (λ i. g (row es' i)) h
          (λ p k. sum_cong (code_ops m laws) (length es) _ _ (λ i k. ap (λ x. t.weight_of p i ⊗ g x) (row_before es e i k)) ∙ old p k)
          p l (kern Fd t.row_of f.0 p) (Fd.inv (rest f.0))
          ∙ ap (λ x. h p ⊕ kern Fd t.row_of f.0 p ⊗ (Fd.inv (rest f.0) ⊗ (g x ⊕ ⊖ (sum (code_ops m laws) n (λ p. c p ⊗ h p))))) (row_last es e)

      -- what is taken out has no weight at a new equation
      pub rest_fresh : (i : ℕ) → length es' ≤ i → rest_weight i ≡ 𝟘
      rest_fresh i k =
          ap₂ (λ x y. x ⊕ ⊖ y) (unit_other (code_ops m laws) (length es) i (let z = length_more es e in omega arith))
          (sum_zero Fd.ring n _ (λ p l. ap (λ x. c p ⊗ x) (t.fresh p l i (let z = length_more es e in omega arith)) ∙ *-zero Fd.ring (c p)))
          ∙ +-neg Fd.ring 𝟘

      pub blank_more : (p : ℕ) → p < n → Free Fd n row_more val_more p → (i : ℕ) → weight_more p i ≡ 𝟘
      blank_more p l fr i =
          let s = step_free Fd n t.row_of t.val_of c b f.0 t.reduced f.1 f.2 f.3 p l fr in
          no_multiple Fd (t.weight_of p i) (unit (code_ops m laws) f.0 p) (t.row_of p f.0) (Fd.inv (rest f.0) ⊗ rest_weight i)
          (t.blank p l s.1 i) (unit_other (code_ops m laws) f.0 p s.0) (s.1.row f.0 f.1)

      unfoldable pub tabled_more : Tabled (es ++ (e ∷ []))
      tabled_more = record {
        row_of = row_more;
        val_of = val_more;
        weight_of = weight_more;
        reduced = step_reduced Fd n t.row_of t.val_of c b f.0 t.reduced f.1 f.2 f.3;
        back = λ v s.
            let u = sat_step Fd n t.row_of t.val_of c b f.0 t.reduced f.1 f.2 f.3 v s in
            each_more (λ x. dot (code_ops m laws) n (vec m laws x.coefficients) v ≡ code m laws x.value) es e (t.back v u.0) u.1;
        few =
            let a = step_frees Fd n t.row_of t.val_of c b f.0 t.reduced f.1 f.2 f.3 in
            let b = t.few in
            let d = length_more es e in
            omega arith;
        builds = λ p l j k. more_made p l (λ x. vec m laws x.coefficients j) (λ p. t.row_of p j) (λ p l. t.builds p l j k);
        values = λ p l. more_made p l (λ x. code m laws x.value) t.val_of t.values;
        fresh = λ p l i k.
            none_added Fd (t.weight_of p i) (kern Fd t.row_of f.0 p) (Fd.inv (rest f.0)) (rest_weight i)
            (t.fresh p l i (let z = length_more es e in omega arith)) (rest_fresh i k);
        blank = blank_more;
      }

    module _ (s : Sounds m n es) (se : Sound m n e) where
      -- an open equation holds of a possible vector, and fails of another
      pub open_both : First (field m laws) rest n
          → ((v : List ℕ) × Possible m n es v × Satisfies m v e) × ((v : List ℕ) × Possible m n es v × (Satisfies m v e → ⊥))
      open_both f =
          let o = open_row Fd n t.row_of t.val_of t.reduced (vec m laws e.coefficients) f.0 f.1 f.2 (code m laws e.value) in (
            (
              listed m laws n o.0.0,
              listed_possible m laws n es o.0.0 s (t.back o.0.0 o.0.1),
              (listed_satisfies m laws n e o.0.0 se).0 o.0.2,
            ),
            (
              listed m laws n o.1.0,
              listed_possible m laws n es o.1.0 s (t.back o.1.0 o.1.1),
              λ h. o.1.2 ((listed_satisfies m laws n e o.1.0 se).1 h),
            ),
          )

      -- a closed one has one value on all possible vectors
      closed_value : ((q : ℕ) → q < n → rest q ≡ 𝟘) → (v : List ℕ) → Possible m n es v
          → dot (code_ops m laws) n (vec m laws e.coefficients) (vec m laws v) ≡ code m laws e.value ⊕ ⊖ rest_value
      closed_value z v p =
          determined Fd n t.row_of t.val_of t.reduced (vec m laws e.coefficients) (code m laws e.value) z (vec m laws v)
          (tabled_to es t (vec m laws v) (meets_to m laws n es v s p))

      pub closed_holds : ((q : ℕ) → q < n → rest q ≡ 𝟘) → rest_value ≡ 𝟘 → (v : List ℕ) → Possible m n es v → Satisfies m v e
      closed_holds z h v p =
          satisfies_from m laws n e v se p.vector
          (closed_value z v p ∙ ap (λ x. code m laws e.value ⊕ ⊖ x) h ∙ less_zero Fd (code m laws e.value))

      pub closed_fails : ((q : ℕ) → q < n → rest q ≡ 𝟘) → ¬ (rest_value ≡ 𝟘) → (v : List ℕ) → Possible m n es v → Satisfies m v e → ⊥
      closed_fails z h v p k =
          h (difference Fd (code m laws e.value) rest_value (sym (closed_value z v p) ∙ satisfies_to m laws n e v se p.vector k))

      -- an equation that some possible vector meets, and another breaks, is open
      pub both_open : (v w : List ℕ) → Possible m n es v → Satisfies m v e → Possible m n es w → (Satisfies m w e → ⊥) → First (field m laws) rest n
      both_open v w pv sv pw nw = go (first Fd rest n) (dec rest_value 𝟘)
        where
          go : ((q : ℕ) → q < n → rest q ≡ 𝟘) ⊎ First Fd rest n → Dec (rest_value ≡ 𝟘) → First Fd rest n
          go (inr f) d = f
          go (inl z) (yes h) = absurd (nw (closed_holds z h w pw))
          go (inl z) (no h) = absurd (closed_fails z h v pv sv)
