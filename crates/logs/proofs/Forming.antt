-- A reduced table of equations gives their reduced row echelon form.
use Rattle.std.proofs.Common.{◌≡◌, ℕ, zero, suc, ◌<◌, ◌≤◌, Bool, true, false, cond, not, eqb, ltb, ◌≢◌, ◌⊎◌, List, map, length, get_or, sym, ap, ◌∙◌, subst, ap₂, inl, inr, zero-add, arith}
use lib.ListN.{length-map}
use Rattle.std.proofs.lemmas.List.{get_or-map}
use Rattle.std.proofs.lemmas.Bool.{cases_Bool, cond-true, cond-false, not-true, not-false, eqb-true, eqb-false, lt-ltb, le-ltb}
use Rattle.algebra.specs.Among.{among}
use Rattle.algebra.specs.Meaning.{Meaning}
use Rattle.algebra.specs.Operations.{sum, dot}
use Rattle.algebra.specs.Vectors.{Equation, nothing, row, entries, Sound, Sounds}
use Rattle.algebra.proofs.Sums.{sum_cong}
use Rattle.linear.specs.Field.{FieldOn, FieldLaws}
use Rattle.linear.specs.Table.{Free, Pivot, res}
use Rattle.linear.proofs.Identities.{*-zero, from_less}
use Rattle.linear.proofs.Solving.{open_row, val_sat}
use Rattle.linear.proofs.Among.{among_yes, among_no, among_each, among_rising, among_once, sum_among}
use Rattle.linear.proofs.Codes.{Code, same_code, code, code_at, code_same, vec, field, code_ops}
use Rattle.linear.proofs.Systems.{tabulated, coef, value_of, listed, listed_vector, listed_at, listed_builds, listed_value}
use Rattle.linear.proofs.Tables.{Tabled, tabled_few}
use Rattle.logs.specs.Reduced.{LeadsAt, Built, ReducedForm, Reduction}

-- no more pass than are tried
among_few : (b : ℕ → Bool) (a k : ℕ) → length (among b a k) ≤ k
among_few b a zero = omega arith
among_few b a (suc k) = go (cases_Bool (b a)) (among_few b (suc a) k)
  where
    go : (b a ≡ true) ⊎ (b a ≡ false) → length (among b (suc a) k) ≤ k → length (among b a (suc k)) ≤ suc k
    go (inl y) ih = let e = ap length (among_yes b a k y) in omega arith
    go (inr f) ih = let e = ap length (among_no b a k f) in omega arith

module _ (m : Meaning) (laws : FieldLaws m) (n : ℕ) where
  open (field m laws).ring.ops use {𝟘, ◌⊗◌}

  -- weights over the field that make the coefficients and the value of an equation build it
  weights_build : (es : List Equation) (e : Equation) (w : ℕ → Code m) → Sounds m n es → Sound m n e → length es ≤ n
      → ((i : ℕ) → length es ≤ i → w i ≡ 𝟘)
      → ((j : ℕ) → j < n → dot (code_ops m laws) (length es) w (λ i. coef m laws n es i j) ≡ vec m laws e.coefficients j)
      → dot (code_ops m laws) (length es) w (value_of m laws n es) ≡ code m laws e.value
      → Built m n es e
  weights_build es e w sd se few past columns value =
      let u = listed_value m laws n es sd few w in (
        listed m laws n w,
        listed_builds m laws n es sd few w e.coefficients se.coefficients.codes past columns,
        code_same m laws _ _ u.0 se.value (u.1 ∙ value),
      )

module _ (m : Meaning) (laws : FieldLaws m) (n : ℕ) (es : List Equation) (t : Tabled m laws n es) where
  open (field m laws).ring.ops use {𝟘, ◌⊗◌}
  open field m laws use {dec, one_ne}

  abbrev Fd : FieldOn (Code m)
  Fd = field m laws

  -- whether the table has a row with its pivot in a column
  abbrev pub leads : ℕ → Bool
  leads p = not (eqb (t.row_of p p).0 0)

  -- the columns that have one, and their rows as equations
  abbrev pub pivots_of : List ℕ
  pivots_of = among leads 0 n

  abbrev pub row_at : ℕ → Equation
  row_at p = record { coefficients = listed m laws n (t.row_of p); value = (t.val_of p).0 }

  abbrev pub rows_of : List Equation
  rows_of = map row_at pivots_of

  abbrev piv : ℕ → ℕ
  piv i = get_or pivots_of i 0

  -- a slot is empty, or has its pivot
  pub empty_at : (p : ℕ) → p < n → t.row_of p p ≡ 𝟘 → Free (field m laws) n t.row_of t.val_of p
  empty_at p l e = go (t.reduced p l)
    where
      go : Free Fd n t.row_of t.val_of p ⊎ Pivot Fd n t.row_of p → Free Fd n t.row_of t.val_of p
      go (inl fr) = fr
      go (inr pv) = absurd (one_ne (sym pv.lead ∙ e))

  pub pivot_at : (p : ℕ) → p < n → ¬ (t.row_of p p ≡ 𝟘) → Pivot (field m laws) n t.row_of p
  pivot_at p l ne = go (t.reduced p l)
    where
      go : Free Fd n t.row_of t.val_of p ⊎ Pivot Fd n t.row_of p → Pivot Fd n t.row_of p
      go (inl fr) = absurd (ne (fr.row p l))
      go (inr pv) = pv

  no_row : (p : ℕ) → p < n → leads p ≡ false → Free Fd n t.row_of t.val_of p
  no_row p l e = empty_at p l (same_code m _ _ (eqb-true (t.row_of p p).0 0 (not-false _ e)))

  row_at_lem : (i : ℕ) → i < length pivots_of → row rows_of i ≡ row_at (piv i)
  row_at_lem i l = get_or-map row_at pivots_of i 0 nothing l

  rows_long : length rows_of ≡ length pivots_of
  rows_long = length-map pivots_of row_at

  rows_few : length rows_of ≤ n
  rows_few = let e = rows_long in let l = among_few leads 0 n in omega arith

  inside : (i : ℕ) → i < length pivots_of → piv i < n
  inside i l = let u = (among_each leads 0 n i l).1 in omega arith

  pivot : (i : ℕ) → i < length pivots_of → Pivot Fd n t.row_of (piv i)
  pivot i l =
      pivot_at (piv i) (inside i l)
      (λ e. eqb-false (t.row_of (piv i) (piv i)).0 0 (not-true _ (among_each leads 0 n i l).2) (ap (λ c. c.0) e))

  row_sound : (p : ℕ) → Sound m n (row_at p)
  row_sound p = record { coefficients = listed_vector m laws n (t.row_of p); value = (t.val_of p).1 }

  -- what holds of each pivot's row
  each_row : (P : Equation → Type 0) → ((i : ℕ) → i < length pivots_of → P (row_at (piv i))) → (i : ℕ) → i < length rows_of → P (row rows_of i)
  each_row P h i l =
      let b : i < length pivots_of = let e = rows_long in omega arith in
      subst P (sym (row_at_lem i b)) (h i b)

  rows_sound : Sounds m n rows_of
  rows_sound = each_row (Sound m n) (λ i l. row_sound (piv i))

  -- what stands in a row
  entry_at : (p j : ℕ) → j < n → entries (row_at p).coefficients j ≡ (t.row_of p j).0
  entry_at p j l = tabulated (λ j. (t.row_of p j).0) n j l

  row_leads : (i : ℕ) → i < length pivots_of → LeadsAt n (piv i) (row_at (piv i))
  row_leads i l = record {
    inside = inside i l;
    before = λ j b. entry_at (piv i) j (let k = inside i l in omega arith) ∙ ap (λ c. c.0) ((pivot i l).before j b);
    one = entry_at (piv i) (piv i) (inside i l) ∙ ap (λ c. c.0) (pivot i l).lead;
  }

  row_alone : (i k : ℕ) → i < length pivots_of → k < length pivots_of → i ≢ k → entries (row rows_of k).coefficients (piv i) ≡ 0
  row_alone i k li lk ne =
      ap (λ e. entries e.coefficients (piv i)) (row_at_lem k lk) ∙ entry_at (piv k) (piv i) (inside i li)
      ∙ ap (λ c. c.0) ((pivot i li).others (piv k) (inside k lk) (λ e. ne (sym (among_once leads 0 n k i lk li e))))

  module _ (sd : Sounds m n es) where
    -- a row is built by the weights of its slot
    row_built : (i : ℕ) → i < length pivots_of → Built m n es (row_at (piv i))
    row_built i l =
        weights_build m laws n es (row_at (piv i)) (t.weight_of (piv i)) sd (row_sound (piv i)) (tabled_few m laws n es t)
        (t.fresh (piv i) (inside i l))
        (λ j lj. t.builds (piv i) (inside i l) j lj ∙ sym (listed_at m laws n (t.row_of (piv i)) j lj))
        (t.values (piv i) (inside i l) ∙ sym (code_at m laws (t.val_of (piv i)).0 (t.val_of (piv i)).1))

    -- and an equation by its own coefficients at the pivots
    module _ (i : ℕ) (li : i < length es) where
      abbrev c : ℕ → Code m
      c = coef m laws n es i

      closed : (q : ℕ) → q < n → res Fd n t.row_of c q ≡ 𝟘
      closed q l = go (dec (res Fd n t.row_of c q) 𝟘)
        where
          go : Dec (res Fd n t.row_of c q ≡ 𝟘) → res Fd n t.row_of c q ≡ 𝟘
          go (yes z) = z
          go (no z) =
              let o = (open_row Fd n t.row_of t.val_of t.reduced c q l z (value_of m laws n es i)).1 in
              absurd (o.2 (t.back o.0 o.1 i li))

      w : ℕ → Code m
      w k = cond (ltb k (length rows_of)) (c (piv k)) 𝟘

      -- a sum over the rows is the sum over all slots
      over : (f : ℕ → Code m) (g : Equation → Code m) → ((p : ℕ) → g (row_at p) ≡ f p)
          → ((p : ℕ) → p < n → Free Fd n t.row_of t.val_of p → f p ≡ 𝟘)
          → dot (code_ops m laws) (length rows_of) w (λ k. g (row rows_of k)) ≡ dot (code_ops m laws) n c f
      unfolding w
      over f g at none =
          sum_cong (code_ops m laws) (length rows_of) _ (λ k. c (piv k) ⊗ f (piv k))
          (λ k l.
          ap₂ ◌⊗◌ (cond-true (ltb k (length rows_of)) _ _ (lt-ltb k (length rows_of) l))
          (ap g (row_at_lem k (let e = rows_long in omega arith)) ∙ at (piv k)))
          ∙ ap (λ k. sum (code_ops m laws) k (λ k. c (piv k) ⊗ f (piv k))) rows_long
          ∙ sym (sum_among Fd leads (λ p. c p ⊗ f p) 0 n
          (λ p a b d. let l : p < n = omega arith in ap (λ x. c p ⊗ x) (none p l (no_row p l d)) ∙ *-zero Fd.ring (c p)))
          ∙ sum_cong (code_ops m laws) n _ _ (λ p l. ap (λ x. c x ⊗ f x) (zero-add p))

      equation_built : Built m n rows_of (row es i)
      unfolding w
      equation_built =
          weights_build m laws n rows_of (row es i) w rows_sound (sd i li) rows_few
          (λ k l. cond-false (ltb k (length rows_of)) _ _ (le-ltb k (length rows_of) l))
          (λ j l.
          over (λ p. t.row_of p j) (λ e. vec m laws e.coefficients j) (λ p. listed_at m laws n (t.row_of p) j l) (λ p lp fr. fr.row j l)
          ∙ sym (from_less Fd.ring (c j) _ (closed j l)))
          (over t.val_of (λ e. code m laws e.value) (λ p. code_at m laws (t.val_of p).0 (t.val_of p).1) (λ p lp fr. fr.value)
          ∙ t.back t.val_of (val_sat Fd n t.row_of t.val_of t.reduced) i li)

    pub tabled_form : ReducedForm m n es rows_of pivots_of
    tabled_form = record {
      echelon = record {
        long = rows_long;
        leads = λ i l. subst (LeadsAt n (piv i)) (sym (row_at_lem i l)) (row_leads i l);
        rising = λ i l. among_rising leads 0 n i (suc i) (omega arith) l;
        alone = row_alone;
      };
      sound = rows_sound;
      from_equations = each_row (Built m n es) row_built;
      to_equations = equation_built;
    }

    abbrev pub tabled_reduction : Reduction m n es
    tabled_reduction = record { rows = rows_of; pivots = pivots_of; form = tabled_form }
