-- Slots that hold the reduced form of the equations that a log kept show the table of these equations.
use Rattle.std.proofs.Common.{◌≡◌, ℕ, ◌+◌, ◌<◌, true, false, not, eqb, ◌⊎◌, List, length, get_or, sym, ap, ◌∙◌, subst, inl, inr, arith}
use native.Mathlib.Decide.{ℕ_discrete}
use Rattle.std.proofs.lemmas.List.FromFn.{length-map-range_with_len}
use Rattle.std.proofs.lemmas.List.{get_or-map}
use Rattle.std.proofs.lemmas.Bool.{cases_Bool, not-true, not_from_false, eqb-false, ne_eqb}
use Rattle.algebra.specs.Among.{member}
use Rattle.algebra.specs.Meaning.{Meaning}
use Rattle.algebra.specs.Vectors.{Equation, nothing, row, entries}
use Rattle.linear.specs.Field.{FieldLaws}
use Rattle.linear.specs.Table.{Free}
use Rattle.linear.proofs.Among.{among_each, among_all, member_find}
use Rattle.linear.proofs.Codes.{code, code_at, from_zero, field}
use Rattle.linear.proofs.Systems.{tabulated, listed, listed_builds}
use Rattle.linear.proofs.Tables.{Tabled, tabled_few}
use Rattle.logs.specs.Offers.{Log, kept}
use Rattle.logs.specs.Logs.{Made}
use Rattle.logs.specs.Reduced.{Reduction}
use Rattle.logs.proofs.Forming.{empty_at}
use Rattle.logs.proofs.Histories.{made_sounds, made_tabled}
use Rattle.logs.proofs.Reductions.{empty_is, no_pivot, row_is, value_is}
use Rattle.logs.proofs.Settling.{builds_once}
use Rattle.recovery.specs.Cells.{cell}
use Rattle.recovery.specs.Slots.{Slots, slot_row, slot_weights, pivots_in, rows_in}
use Rattle.recovery.proofs.Showing.{Shows}

module _ (m : Meaning) (laws : FieldLaws m) (n : ℕ) (log : Log) (md : Made m n log) (slots : List (List ℕ)) (sl : Slots m n (kept log) slots) where
  open (field m laws).ring.ops use {𝟘}

  abbrev t : Tabled m laws n (kept log)
  t = made_tabled m laws n md

  -- the reduced form in the slots
  abbrev pub slots_reduction : Reduction m n (kept log)
  slots_reduction = record { rows = rows_in slots n; pivots = pivots_in slots n; form = sl.form }

  -- a column with an empty slot is free in the table
  free_there : (p : ℕ) → p < n → cell slots p p ≡ 0 → Free (field m laws) n t.row_of t.val_of p
  free_there p l e =
      empty_at m laws n (kept log) t p l
      ((empty_is m laws n (kept log) t p).0
      (sym (no_pivot m laws n (kept log) t (made_sounds md) slots_reduction p l) ∙ not_from_false _ (go (cases_Bool (member p (pivots_in slots n))))))
    where
      go : (member p (pivots_in slots n) ≡ true) ⊎ (member p (pivots_in slots n) ≡ false) → member p (pivots_in slots n) ≡ false
      go (inr f) = f
      go (inl y) =
          let u = member_find p (pivots_in slots n) y in
          let led = (among_each (λ i. not (eqb (cell slots i i) 0)) 0 n u.0 u.1).2 in
          absurd (eqb-false (cell slots p p) 0 (not-true _ (subst (λ x. not (eqb (cell slots x x) 0) ≡ true) u.2 led)) e)

  -- the place of a column whose slot is not empty
  place : (p : ℕ) → p < n → ¬ (cell slots p p ≡ 0)
      → (x : ℕ) × (x < length (pivots_in slots n)) × (get_or (pivots_in slots n) x 0 ≡ p) × (row (rows_in slots n) x ≡ slot_row slots n p)
  place p l ne =
      let u = among_all (λ i. not (eqb (cell slots i i) 0)) 0 n p (omega arith) (omega arith) (not_from_false _ (ne_eqb (cell slots p p) 0 ne)) in
      (u.0, u.1, u.2, get_or-map (slot_row slots n) (pivots_in slots n) u.0 0 nothing u.1 ∙ ap (slot_row slots n) u.2)

  show_row : (p j : ℕ) → p < n → j < n → code m laws (cell slots p j) ≡ t.row_of p j
  show_row p j lp lj = go (ℕ_discrete (cell slots p p) 0)
    where
      go : Dec (cell slots p p ≡ 0) → code m laws (cell slots p j) ≡ t.row_of p j
      go (yes e) = from_zero m laws (cell slots p j) (sl.empty p j lp (omega arith) e) ∙ sym ((free_there p lp e).row j lj)
      go (no ne) =
          let u = place p lp ne in
          ap (code m laws) (sym (ap (λ (e : Equation). entries e.coefficients j) u.3 ∙ tabulated (λ j. cell slots p j) n j lj))
          ∙ row_is m laws n (kept log) t (made_sounds md) slots_reduction u.0 u.1 j lj ∙ ap (λ x. t.row_of x j) u.2

  show_value : (p : ℕ) → p < n → code m laws (cell slots p n) ≡ t.val_of p
  show_value p lp = go (ℕ_discrete (cell slots p p) 0)
    where
      go : Dec (cell slots p p ≡ 0) → code m laws (cell slots p n) ≡ t.val_of p
      go (yes e) = from_zero m laws (cell slots p n) (sl.empty p n lp (omega arith) e) ∙ sym (free_there p lp e).value
      go (no ne) =
          let u = place p lp ne in
          ap (code m laws) (sym (ap (λ (e : Equation). e.value) u.3))
          ∙ value_is m laws n (kept log) t (made_sounds md) slots_reduction u.0 u.1 ∙ ap t.val_of u.2

  -- no other weights build the rows
  show_weights : (p : ℕ) → p < n → slot_weights slots n p ≡ listed m laws n (t.weight_of p)
  show_weights p l =
      builds_once m laws n md (slot_weights slots n p) (listed m laws n (t.weight_of p)) (slot_row slots n p).coefficients (sl.builds p l)
      (listed_builds m laws n (kept log) (made_sounds md) (tabled_few m laws n (kept log) t) (t.weight_of p) (slot_row slots n p).coefficients
      (λ i k.
      let b : i < n = rw (length-map-range_with_len (λ j. cell slots p j) 0 n) at k in
      subst (λ x. x < m.order) (sym (tabulated (λ j. cell slots p j) n i b)) (sl.codes p i l (omega arith)))
      (t.fresh p l)
      (λ j k. t.builds p l j k ∙ sym (show_row p j l k) ∙ ap (code m laws) (sym (tabulated (λ j. cell slots p j) n j k))))

  pub slots_show : Shows m laws n (kept log) (made_tabled m laws n md) slots
  slots_show = record {
    codes = sl.codes;
    rows = show_row;
    values = show_value;
    weights = λ p i l k.
        ap (code m laws) (sym (tabulated (λ i. cell slots p (n + 1 + i)) n i k) ∙ ap (λ xs. entries xs i) (show_weights p l) ∙ tabulated (λ i. (t.weight_of p i).0) n i k)
        ∙ code_at m laws (t.weight_of p i).0 (t.weight_of p i).1;
  }
