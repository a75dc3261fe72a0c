-- Slots whose codes are those of a reduced table hold the reduced form of its equations.
use Rattle.std.proofs.Common.{◌≡◌, ℕ, ◌+◌, ◌-◌, ◌*◌, ◌<◌, ◌≤◌, not, eqb, List, map, length, get_or, sym, ap, ◌∙◌, subst, arith, ext_get_or}
use native.Mathlib.Decide.{ℕ_discrete, dec_lt}
use lib.ListN.{length-map}
use Rattle.std.proofs.lemmas.List.{get_or-map}
use Rattle.std.proofs.lemmas.List.FromFn.{length-map-range_with_len, get_or-map-range_with_len}
use Rattle.algebra.specs.Matrix.{tabulate}
use Rattle.algebra.specs.Meaning.{Meaning}
use Rattle.algebra.specs.Vectors.{Equation, nothing, entries, Sounds}
use Rattle.algebra.specs.Combinations.{Builds, value_sum}
use Rattle.linear.specs.Field.{FieldLaws}
use Rattle.linear.specs.Table.{Free}
use Rattle.linear.proofs.Among.{among_same, among_each}
use Rattle.linear.proofs.Codes.{Code, code, code_is, code_same, to_zero, from_zero, field}
use Rattle.linear.proofs.Systems.{listed, listed_builds, listed_value}
use Rattle.linear.proofs.Tables.{Tabled, tabled_few}
use Rattle.logs.specs.Reduced.{ReducedForm}
use Rattle.logs.proofs.Forming.{leads, pivots_of, row_at, rows_of, empty_at, tabled_form}
use Rattle.recovery.specs.Cells.{cell}
use Rattle.recovery.specs.Slots.{Slots, slot_row, slot_weights, pivots_in, rows_in}

-- lists that are made by functions with equal values
pub tabulate_same : (n : ℕ) (f g : ℕ → ℕ) → ((i : ℕ) → i < n → f i ≡ g i) → tabulate n f ≡ tabulate n g
tabulate_same n f g h =
    ext_get_or 0 (tabulate n f) (tabulate n g) (length-map-range_with_len f 0 n ∙ sym (length-map-range_with_len g 0 n))
    (λ i l.
    let k : i < n = rw (length-map-range_with_len f 0 n) at l in
    get_or-map-range_with_len f 0 n i i 0 k (omega arith) ∙ h i k ∙ sym (get_or-map-range_with_len g 0 n i i 0 k (omega arith)))

same_equation : (a b : Equation) → a.coefficients ≡ b.coefficients → a.value ≡ b.value → a ≡ b
same_equation a b p q = λ i. record { coefficients = p i; value = q i }

module _ (m : Meaning) (laws : FieldLaws m) (n : ℕ) (es : List Equation) (t : Tabled m laws n es) where
  open (field m laws).ring.ops use {𝟘}

  pub record Shows (slots : List (List ℕ)) : Type 0 where
    pub codes : (p j : ℕ) → p < n → j < 2 * n + 1 → cell slots p j < m.order
    pub rows : (p j : ℕ) → p < n → j < n → code m laws (cell slots p j) ≡ t.row_of p j
    pub values : (p : ℕ) → p < n → code m laws (cell slots p n) ≡ t.val_of p
    pub weights : (p i : ℕ) → p < n → i < n → code m laws (cell slots p (n + 1 + i)) ≡ t.weight_of p i

  module _ (slots : List (List ℕ)) (s : Shows slots) where
    -- the number in a cell
    number : (p j : ℕ) (c : Code m) → p < n → j < 2 * n + 1 → code m laws (cell slots p j) ≡ c → cell slots p j ≡ c.0
    number p j c lp lj e = sym (code_is m laws (cell slots p j) (s.codes p j lp lj)) ∙ ap (λ x. x.0) e

    pub cell_row : (p j : ℕ) → p < n → j < n → cell slots p j ≡ (t.row_of p j).0
    cell_row p j lp lj = number p j (t.row_of p j) lp (omega arith) (s.rows p j lp lj)

    pub cell_value : (p : ℕ) → p < n → cell slots p n ≡ (t.val_of p).0
    cell_value p l = number p n (t.val_of p) l (omega arith) (s.values p l)

    pivots_same : pivots_in slots n ≡ pivots_of m laws n es t
    pivots_same = among_same _ _ 0 n (λ i a b. let l : i < n = omega arith in ap (λ x. not (eqb x 0)) (cell_row i i l l))

    row_same : (p : ℕ) → p < n → slot_row slots n p ≡ row_at m laws n es t p
    row_same p l =
        same_equation _ _ (tabulate_same n (λ j. cell slots p j) (λ j. (t.row_of p j).0) (λ j k. cell_row p j l k))
        (cell_value p l)

    rows_same : rows_in slots n ≡ rows_of m laws n es t
    rows_same =
        ap (λ ps. map (slot_row slots n) ps) pivots_same
        ∙ ext_get_or nothing _ _ (length-map (pivots_of m laws n es t) (slot_row slots n) ∙ sym (length-map (pivots_of m laws n es t) (row_at m laws n es t)))
        (λ i l.
        let k : i < length (pivots_of m laws n es t) = rw (length-map (pivots_of m laws n es t) (slot_row slots n)) at l in
        let u = among_each (leads m laws n es t) 0 n i k in
        get_or-map (slot_row slots n) (pivots_of m laws n es t) i 0 nothing k
        ∙ row_same (get_or (pivots_of m laws n es t) i 0) (omega (arith, u.1))
        ∙ sym (get_or-map (row_at m laws n es t) (pivots_of m laws n es t) i 0 nothing k))

    weights_same : (p : ℕ) → p < n → slot_weights slots n p ≡ listed m laws n (t.weight_of p)
    weights_same p l =
        tabulate_same n (λ i. cell slots p (n + 1 + i)) (λ i. (t.weight_of p i).0)
        (λ i k. number p (n + 1 + i) (t.weight_of p i) l (omega arith) (s.weights p i l k))

    -- a slot with 0 in its own column is that of a free column
    own_free : (p : ℕ) → p < n → cell slots p p ≡ 0 → Free (field m laws) n t.row_of t.val_of p
    own_free p l e = empty_at m laws n es t p l (sym (s.rows p p l l) ∙ from_zero m laws (cell slots p p) e)

    pub all_empty : (p j : ℕ) → p < n → j < 2 * n + 1 → cell slots p p ≡ 0 → cell slots p j ≡ 0
    all_empty p j lp lj e = go (dec_lt j n) (ℕ_discrete j n)
      where
        fr : Free (field m laws) n t.row_of t.val_of p
        fr = own_free p lp e

        zero_at : (j : ℕ) → j < 2 * n + 1 → code m laws (cell slots p j) ≡ 𝟘 → cell slots p j ≡ 0
        zero_at j l z = to_zero m laws (cell slots p j) (s.codes p j lp l) z

        go : Dec (j < n) → Dec (j ≡ n) → cell slots p j ≡ 0
        go (yes a) d = zero_at j lj (s.rows p j lp a ∙ fr.row j a)
        go (no a) (yes b) = ap (cell slots p) b ∙ zero_at n (omega arith) (s.values p lp ∙ fr.value)
        go (no a) (no b) =
            let i : j ≡ n + 1 + (j - (n + 1)) = omega arith in
            ap (cell slots p) i ∙ zero_at (n + 1 + (j - (n + 1))) (omega arith) (s.weights p (j - (n + 1)) lp (omega arith) ∙ t.blank p lp fr (j - (n + 1)))

    pub shown_slots : Sounds m n es → Slots m n es slots
    shown_slots sd = record {
      codes = s.codes;
      empty = all_empty;
      form =
          subst (λ rows. ReducedForm m n es rows (pivots_in slots n)) (sym rows_same)
          (subst (λ pivots. ReducedForm m n es (rows_of m laws n es t) pivots) (sym pivots_same) (tabled_form m laws n es t sd));
      builds = λ p l.
          subst (λ ws. Builds m n es ws (slot_row slots n p).coefficients) (sym (weights_same p l))
          (listed_builds m laws n es sd few (t.weight_of p) (slot_row slots n p).coefficients (row_codes p l) (t.fresh p l)
          (λ j k. t.builds p l j k ∙ sym (s.rows p j l k) ∙ ap (code m laws) (sym (get_or-map-range_with_len (λ j. cell slots p j) 0 n j j 0 k (omega arith)))));
      values = λ p l.
          let u = listed_value m laws n es sd few (t.weight_of p) in
          ap (λ ws. value_sum m ws es) (weights_same p l)
          ∙ code_same m laws _ (cell slots p n) u.0 (s.codes p n l (omega arith)) (u.1 ∙ t.values p l ∙ sym (s.values p l));
    }
      where
        few : length es ≤ n
        few = tabled_few m laws n es t

        row_codes : (p : ℕ) → p < n → Rattle.algebra.specs.Vectors.Codes m (slot_row slots n p).coefficients
        row_codes p l i k =
            let b : i < n = rw (length-map-range_with_len (λ j. cell slots p j) 0 n) at k in
            subst (λ x. x < m.order) (sym (get_or-map-range_with_len (λ j. cell slots p j) 0 n i i 0 b (omega arith))) (s.codes p i l (omega arith))
