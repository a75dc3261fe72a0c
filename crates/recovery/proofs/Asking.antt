-- What the columns of the slots answer after the log that a table holds.
use Rattle.std.proofs.Common.{◌≡◌, ℕ, ◌+◌, ◌-◌, ◌<◌, eqb, ltb, ◌≢◌, List, length, get_or, Some, None, Ok, sym, ap, ◌∙◌, subst, arith}
use native.Mathlib.Decide.{ℕ_discrete}
use Rattle.std.proofs.lemmas.List.FromFn.{fill_by_all}
use Rattle.std.proofs.lemmas.Bool.{cond-true, eq-eqb, lt-ltb}
use Rattle.std.proofs.lemmas.Option.{get_or_from_slice_get, slice_get-get_or}
use Rattle.std.specs.List.{slice_get}
use Rattle.algebra.specs.Meaning.{Meaning}
use Rattle.algebra.specs.Vectors.{entries}
use Rattle.linear.specs.Field.{FieldOn, FieldLaws}
use Rattle.linear.specs.Table.{unit, unit_other, kern}
use Rattle.linear.proofs.Identities.{zero-+, neg_zero, neg_neg}
use Rattle.linear.proofs.Among.{among_same}
use Rattle.linear.proofs.Codes.{Code, from_zero, field, code_ops}
use Rattle.linear.proofs.Tables.{Tabled}
use Rattle.logs.specs.declared.answer.Symbol.TheVariants.{Known, Open}
use Rattle.logs.specs.Offers.{Log, kept}
use Rattle.logs.specs.Questions.{solution, kernel, unknown, wrote, said, unknown_checked, Answers, Solution, Kernel}
use Rattle.logs.specs.Reduced.{Reduction}
use Rattle.logs.proofs.Checking.{some_none}
use Rattle.logs.proofs.Histories.{made_tabled}
use Rattle.logs.proofs.Reductions.{free_of, free_column, kern_of, free_many, free_column_lem, kern_here, is_solution_lem, is_kernel_lem}
use Rattle.logs.proofs.Replying.{shows_tells}
use Rattle.recovery.specs.declared.table.Table.{Table}
use Rattle.recovery.specs.Cells.{cell}
use Rattle.recovery.specs.Columns.{free_in, Leaves, FirstMoving, NegativeColumn}
use Rattle.recovery.specs.Tables.{Holds}
use Rattle.recovery.proofs.Reading.{slots_reduction, slots_show}
use Rattle.recovery.proofs.Showing.{Shows, cell_row, cell_value}

-- identities, over any field
module _ {K : Type 0} (F : FieldOn K) where
  open F.ring.ops use {𝟘, ◌⊕◌, ⊖}

  only_negative : (k a : K) → k ≡ 𝟘 → k ⊕ ⊖ a ≡ ⊖ a
  only_negative k a e = ap (λ x. x ⊕ ⊖ a) e ∙ zero-+ F.ring (⊖ a)

  from_negative : (a : K) → ⊖ a ≡ 𝟘 → a ≡ 𝟘
  from_negative a e = sym (neg_neg F.ring a) ∙ ap ⊖ e ∙ neg_zero F.ring

module _ (m : Meaning) (laws : FieldLaws m) (n : ℕ) (log : Log) (t : Table) (h : Holds m n log t) where
  open (field m laws).ring.ops use {𝟘, 𝟙, ◌⊕◌, ⊖}
  open field m laws use {one_ne}

  abbrev Fd : FieldOn (Code m)
  Fd = field m laws

  abbrev T : Tabled m laws n (kept log)
  T = made_tabled m laws n h.made

  abbrev slots : List (List ℕ)
  slots = t.slots

  shows : Shows m laws n (kept log) (made_tabled m laws n h.made) t.slots
  shows = slots_show m laws n log h.made t.slots h.slots

  form : Reduction m n (kept log)
  form = slots_reduction m laws n log h.made t.slots h.slots

  row_number : (p j : ℕ) → p < n → j < n → cell slots p j ≡ (T.row_of p j).0
  row_number = cell_row m laws n (kept log) T slots shows

  pub free_same : free_in t.slots n ≡ free_of m laws n (kept log) (made_tabled m laws n h.made)
  free_same = among_same _ _ 0 n (λ i a b. let l : i < n = omega arith in ap (λ x. eqb x 0) (row_number i i l l))

  frees : length (free_in slots n) + length (kept log) ≡ n
  frees = ap (λ fs. length fs + length (kept log)) free_same ∙ free_many m laws n (kept log) T

  -- there are as many free columns as kernel vectors
  asked_many : (k : ℕ) → k < t.width - t.count → k < length (free_in t.slots t.width)
  asked_many k l =
      subst (λ x. k < length (free_in slots x)) (sym h.width)
      (let a = frees in let b = h.count in let w = h.width in omega arith)

  pub asked_solution : (out after : List ℕ) → length out ≡ t.width → length after ≡ length out
      → ((k : ℕ) → k < length out → entries after k ≡ cell t.slots k t.width) → Answers m n log (solution out) (wrote (Ok tt) after)
  asked_solution out after lo la f =
      let w = h.width in (
        form,
        (
          cond-true (eqb (length out) n) _ _ (eq-eqb (length out) n (lo ∙ w)),
          subst (Solution m n log form)
              (sym (fill_by_all (λ j. (T.val_of j).0) after n 0 (la ∙ lo ∙ w) (λ k l. f k (omega arith) ∙ ap (cell slots k) w ∙ cell_value m laws n (kept log) T slots shows k l)))
              (is_solution_lem m laws n log h.made T form),
        ),
      )

  module _ (k : ℕ) (lk : k < length (free_in t.slots n)) where
    abbrev f : ℕ
    f = get_or (free_in t.slots n) k 0

    lk_there : k < length (free_of m laws n (kept log) T)
    lk_there = subst (λ (fs : List ℕ). k < length fs) free_same lk

    f_there : f ≡ free_column m laws n (kept log) T k
    f_there = ap (λ (fs : List ℕ). get_or fs k 0) free_same

    f_inside : f < n
    f_inside = subst (λ x. x < n) (sym f_there) (free_column_lem m laws n (kept log) T k lk_there).0

    kern_there : (j : ℕ) → kern_of m laws n (kept log) T k j ≡ kern Fd T.row_of f j
    kern_there j = ap (λ x. kern Fd T.row_of x j) (sym f_there)

    kern_other : (j : ℕ) → j ≢ f → kern_of m laws n (kept log) T k j ≡ ⊖ (T.row_of j f)
    kern_other j ne = kern_there j ∙ only_negative Fd (unit (code_ops m laws) f j) (T.row_of j f) (unit_other (code_ops m laws) f j ne)

    kern_one : kern_of m laws n (kept log) T k f ≡ 𝟙
    kern_one = ap (λ x. kern_of m laws n (kept log) T k x) f_there ∙ kern_here m laws n (kept log) T k lk_there

    kernel_entry : (out : List ℕ) → NegativeColumn m.negative t.slots f out → (j : ℕ) → j < n → j < length out
        → entries out j ≡ (kern_of m laws n (kept log) T k j).0
    kernel_entry out c j lj lo = go (ℕ_discrete j f)
      where
        go : Dec (j ≡ f) → entries out j ≡ (kern_of m laws n (kept log) T k j).0
        go (yes e) = ap (entries out) e ∙ c.here ∙ sym (ap (λ x. x.0) (ap (λ x. kern_of m laws n (kept log) T k x) e ∙ kern_one))
        go (no ne) = c.others j lo ne ∙ ap m.negative (row_number j f lj f_inside) ∙ sym (ap (λ x. x.0) (kern_other j ne))

    -- a free column leaves an unknown if and only if its kernel vector is 0 there
    module _ (j : ℕ) (lj : j < n) where
      leaves_zero : Leaves t.slots n j k → kern_of m laws n (kept log) T k j ≡ 𝟘
      leaves_zero v =
          kern_other j (λ e. v.0 (sym e)) ∙ ap ⊖ (sym (shows.rows j f lj f_inside) ∙ from_zero m laws (cell slots j f) v.1) ∙ neg_zero Fd.ring

      zero_leaves : kern_of m laws n (kept log) T k j ≡ 𝟘 → Leaves t.slots n j k
      zero_leaves z =
          let other : f ≢ j = λ e. one_ne (sym kern_one ∙ ap (λ x. kern_of m laws n (kept log) T k x) e ∙ z) in (
            other,
            row_number j f lj f_inside ∙ ap (λ x. x.0) (from_negative Fd (T.row_of j f) (sym (kern_other j (λ e. other (sym e))) ∙ z)),
          )

  pub asked_column : (k : ℕ) → k < t.width - t.count → slice_get (free_in t.slots t.width) k ≡ None → ⊥
  asked_column k l e = some_none (sym (slice_get-get_or (free_in t.slots t.width) k 0 (asked_many k l)) ∙ e)

  pub asked_kernel : (k c : ℕ) (out after : List ℕ) → k < t.width - t.count → length out ≡ t.width → length after ≡ length out
      → slice_get (free_in t.slots t.width) k ≡ Some c → NegativeColumn m.negative t.slots c after → Answers m n log (kernel k out) (wrote (Ok tt) after)
  asked_kernel k c out after l lo la e column =
      let w = h.width in
      let b = h.count in
      let lk : k < length (free_in slots n) = subst (λ x. k < length (free_in slots x)) w (asked_many k l) in
      let e : c ≡ get_or (free_in slots n) k 0 =
      sym (get_or_from_slice_get (free_in t.slots t.width) k c 0 e) ∙ ap (λ x. get_or (free_in slots x) k 0) w in
      let col = subst (λ x. NegativeColumn m.negative slots x after) e column in (
        form,
        (
          cond-true (ltb k (n - length (kept log))) _ _ (lt-ltb k (n - length (kept log)) (omega arith))
              ∙ cond-true (eqb (length out) n) _ _ (eq-eqb (length out) n (lo ∙ w)),
          subst (Kernel m n log form k)
              (sym (fill_by_all (λ j. (kern_of m laws n (kept log) T k j).0) after n 0 (la ∙ lo ∙ w) (λ j lj. kernel_entry k lk after col j lj (omega arith))))
              (is_kernel_lem m laws n log h.made T form k (lk_there k lk)),
        ),
      )

  passes : (j : ℕ) → j < n → unknown_checked n j ≡ Ok tt
  passes j l = cond-true (ltb j n) _ _ (lt-ltb j n l)

  pub asked_open : (j k : ℕ) → j < t.width → FirstMoving t.slots t.width j (Some k) → Answers m n log (unknown j) (said (Ok (Open k)))
  asked_open j k l first =
      let lj : j < n = let w = h.width in omega arith in
      let f = subst (λ x. FirstMoving slots x j (Some k)) h.width first in (
        form,
        (
          passes j lj,
          shows_tells m laws n log h.made T form j lj (Open k) (
            subst (λ (fs : List ℕ). k < length fs) free_same f.0,
            (λ z. f.1 (zero_leaves k f.0 j lj z)),
            (λ x lx. leaves_zero x (let b = f.0 in omega arith) j lj (f.2 x lx)),
          ),
        ),
      )

  pub asked_known : (j : ℕ) → j < t.width → FirstMoving t.slots t.width j None
      → Answers m n log (unknown j) (said (Ok (Known (cell t.slots j t.width))))
  asked_known j l first =
      let lj : j < n = let w = h.width in omega arith in
      let f = subst (λ x. FirstMoving slots x j None) h.width first in (
        form,
        (
          passes j lj,
          shows_tells m laws n log h.made T form j lj (Known (cell slots j t.width)) (
            sym (ap (cell slots j) h.width ∙ cell_value m laws n (kept log) T slots shows j lj),
            (λ x lx. let lx' : x < length (free_in slots n) = subst (λ (fs : List ℕ). x < length fs) (sym free_same) lx in leaves_zero x lx' j lj (f x lx')),
          ),
        ),
      )
