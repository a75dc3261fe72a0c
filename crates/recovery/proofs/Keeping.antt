-- The slots after an offer is kept are those of the table with its equation.
use Rattle.std.proofs.Common.{◌≡◌, ℕ, ◌+◌, ◌*◌, ◌<◌, ◌≢◌, List, [], ◌∷◌, ◌++◌, length, set, sym, ap, ◌∙◌, subst, ap₂, arith, length-set, get_or-set_other, get_or-set_same}
use native.Mathlib.Decide.{ℕ_discrete}
use Rattle.algebra.specs.Meaning.{Meaning}
use Rattle.algebra.specs.Vectors.{Equation, entries, Satisfies, Possible}
use Rattle.linear.specs.Field.{FieldOn, FieldLaws}
use Rattle.linear.specs.Table.{unit, unit_same, unit_other, Free, kern}
use Rattle.linear.proofs.Identities.{units, zero-+, *-zero, *-assoc, *-comm, one-*, *-one, neg-*}
use Rattle.linear.proofs.Sums.{sum_zero}
use Rattle.linear.proofs.FirstNonzero.{First}
use Rattle.linear.proofs.Pivoting.{q_free}
use Rattle.linear.proofs.Codes.{Code, code, code_one, code_product, to_zero, from_zero, one_code, vec, field, code_ops}
use Rattle.linear.proofs.Systems.{length_more}
use Rattle.linear.proofs.Tables.{Tabled, tabled_few, tabled_more, rest, rest_value, rest_weight, open_both}
use Rattle.recovery.specs.Cells.{cell, Divided, Placed}
use Rattle.recovery.proofs.Showing.{Shows, all_empty}
use Rattle.recovery.proofs.Judging.{Left, plus_code, left_rest, left_value, left_weight, left_all, taken_weight}

-- identities, over any field
module _ {K : Type 0} (F : FieldOn K) where
  open F.ring.ops use {𝟘, 𝟙, ◌⊕◌, ◌⊗◌, ⊖}
  open F use {inv, ⊗-inv}

  one_inverse : (a x : K) → ¬ (a ≡ 𝟘) → a ⊗ x ≡ 𝟙 → x ≡ inv a
  one_inverse a x ne e =
      sym (one-* F.ring x) ∙ ap (λ y. y ⊗ x) (sym (⊗-inv a ne) ∙ *-comm F.ring a (inv a)) ∙ *-assoc F.ring (inv a) a x
      ∙ ap (λ y. inv a ⊗ y) e ∙ *-one F.ring (inv a)

  at_pivot : (x k a y : K) → x ≡ 𝟘 → k ≡ 𝟙 → a ≡ 𝟘 → x ⊕ (k ⊕ ⊖ a) ⊗ y ≡ y
  at_pivot x k a y ex ek ea = ap₂ (λ p r. x ⊕ (p ⊕ ⊖ r) ⊗ y) ek ea ∙ ap (λ z. z ⊕ (𝟙 ⊕ ⊖ 𝟘) ⊗ y) ex ∙ simp units

  at_other : (k a y : K) → k ≡ 𝟘 → (k ⊕ ⊖ a) ⊗ y ≡ ⊖ (a ⊗ y)
  at_other k a y e = ap (λ z. (z ⊕ ⊖ a) ⊗ y) e ∙ ap (λ z. z ⊗ y) (zero-+ F.ring (⊖ a)) ∙ neg-* F.ring a y

  own_weight : (k x : K) → k ≡ 𝟙 → x ≡ 𝟘 → k ⊕ ⊖ x ≡ 𝟙
  own_weight k x ek ex = ap₂ (λ a b. a ⊕ ⊖ b) ek ex ∙ simp units

module _ (m : Meaning) (laws : FieldLaws m) (n : ℕ) (es : List Equation) (t : Tabled m laws n es) (slots : List (List ℕ)) (e : Equation) (left : List ℕ)
    (given : Left m laws n es t slots e left) (q : ℕ) (inside : q < n) (nonzero : entries left q ≢ 0) (early : (k : ℕ) → k < q → entries left k ≡ 0) where
  open (field m laws).ring.ops use {𝟘, 𝟙, ◌⊕◌, ◌⊗◌, ⊖}

  abbrev Fd : FieldOn (Code m)
  Fd = field m laws

  abbrev c : ℕ → Code m
  c = vec m laws e.coefficients

  abbrev r : ℕ → Code m
  r = rest m laws n es t e

  left_is : (j : ℕ) → j < n → (entries left j < m.order) × (code m laws (entries left j) ≡ r j)
  left_is = left_rest m laws n es t slots e left given

  pub stays : ¬ (rest m laws n es t e q ≡ 𝟘)
  stays h = nonzero (to_zero m laws (entries left q) (left_is q inside).0 ((left_is q inside).1 ∙ h))

  pub gone : (i : ℕ) → i < q → rest m laws n es t e i ≡ 𝟘
  gone i l = sym (left_is i (omega arith)).1 ∙ from_zero m laws (entries left i) (early i l)

  -- q is the first column that is left, and becomes a pivot
  abbrev pub opened : First (field m laws) (rest m laws n es t e) n
  opened = (q, inside, stays, gone)

  -- a possible vector satisfies the offer, and another does not
  pub kept_both : ((v : List ℕ) × Possible m n es v × Satisfies m v e) × ((v : List ℕ) × Possible m n es v × (Satisfies m v e → ⊥))
  kept_both = open_both m laws n es t e given.sounds given.sound opened

  pub kept_room : length es < n
  kept_room = let f = tabled_few m laws n (es ++ (e ∷ [])) (tabled_more m laws n es t e opened) in let g = length_more es e in omega arith

  free : Free Fd n t.row_of t.val_of q
  free = q_free Fd n t.row_of t.val_of c (code m laws e.value) q t.reduced inside stays gone

  -- the row with the new equation's own weight, divided by its cell at q, and the slots with it placed
  module _ (long : length left ≡ 2 * n + 1) (divided : List ℕ) (same-long : length divided ≡ length left) (after : List (List ℕ))
      (divides : Divided m q (set left (n + 1 + length es) 1) divided) (places : Placed m n q divided slots after) where
    marked : List ℕ
    marked = set left (n + 1 + length es) 1

    marked_own : entries marked (n + 1 + length es) ≡ 1
    unfolding marked
    marked_own = get_or-set_same left (n + 1 + length es) 1 0 (let k = kept_room in omega arith)

    marked_other : (k : ℕ) → k ≢ n + 1 + length es → entries marked k ≡ entries left k
    unfolding marked
    marked_other k ne = get_or-set_other left (n + 1 + length es) k 1 0 ne

    Y : ℕ → Code m
    Y j = code m laws (entries marked j)

    marked_code : (j : ℕ) → j < 2 * n + 1 → entries marked j < m.order
    marked_code j l = go (ℕ_discrete j (n + 1 + length es))
      where
        go : Dec (j ≡ n + 1 + length es) → entries marked j < m.order
        go (yes h) = subst (λ x. x < m.order) (sym (ap (entries marked) h ∙ marked_own)) (one_code m laws)
        go (no h) = subst (λ x. x < m.order) (sym (marked_other j h)) (left_all m laws n es t slots e left given j l)

    YRest : (j : ℕ) → j < n → Y j ≡ r j
    unfolding Y
    YRest j l = ap (code m laws) (marked_other j (λ h. omega arith)) ∙ (left_is j l).1

    YValue : Y n ≡ rest_value m laws n es t e
    unfolding Y
    YValue = ap (code m laws) (marked_other n (λ h. omega arith)) ∙ (left_value m laws n es t slots e left given).1

    YWeight : (i : ℕ) → i < n → Y (n + 1 + i) ≡ rest_weight m laws n es t e i
    unfolding Y
    YWeight i l = go (ℕ_discrete i (length es))
      where
        none : taken_weight m laws n es t slots e left given (length es) ≡ 𝟘
        none = sum_zero Fd.ring n _ (λ p k. ap (λ x. c p ⊗ x) (t.fresh p k (length es) (omega arith)) ∙ *-zero Fd.ring (c p))

        go : Dec (i ≡ length es) → code m laws (entries marked (n + 1 + i)) ≡ rest_weight m laws n es t e i
        go (yes h) =
            ap (λ k. code m laws (entries marked (n + 1 + k))) h ∙ ap (code m laws) marked_own ∙ code_one m laws
            ∙ sym (ap (rest_weight m laws n es t e) h ∙ own_weight Fd _ _ (unit_same (code_ops m laws) (length es)) none)
        go (no h) =
            ap (code m laws) (marked_other (n + 1 + i) (λ k. h (omega arith)))
            ∙ (left_weight m laws n es t slots e left given i l).1
            ∙ sym (ap (λ x. x ⊕ ⊖ (taken_weight m laws n es t slots e left given i)) (unit_other (code_ops m laws) (length es) i h)
            ∙ zero-+ Fd.ring _)

    divisor : (u : ℕ) × (u < m.order) × (m.product (entries marked q) u ≡ 1)
        × ((k : ℕ) → k < 2 * n + 1 → entries divided k ≡ m.product u (entries marked k))
    unfolding marked
    divisor =
        let d = divides (marked_code q (omega arith)) (λ h. nonzero (sym (marked_other q (λ k. omega arith)) ∙ h)) in
        (d.0, d.1, d.2, λ k l. d.3 k (rw (length-set left (n + 1 + length es) 1) (omega arith)))

    divisor_code : code m laws divisor.0 ≡ Fd.inv (r q)
    unfolding Y
    divisor_code =
        one_inverse Fd (r q) (code m laws divisor.0) stays
        (ap (λ x. x ⊗ code m laws divisor.0) (sym (YRest q inside))
        ∙ sym (code_product m laws (entries marked q) divisor.0 (marked_code q (omega arith)) divisor.1)
        ∙ ap (code m laws) divisor.2 ∙ code_one m laws)

    divided_code : (j : ℕ) → j < 2 * n + 1 → (entries divided j < m.order) × (code m laws (entries divided j) ≡ Fd.inv (r q) ⊗ Y j)
    unfolding Y
    divided_code j l = (
      subst (λ x. x < m.order) (sym (divisor.3 j l)) (laws.ring.laws.product_code _ _ divisor.1 (marked_code j l)),
      ap (code m laws) (divisor.3 j l) ∙ code_product m laws divisor.0 (entries marked j) divisor.1 (marked_code j l)
          ∙ ap (λ x. x ⊗ Y j) divisor_code,
    )

    -- slot q was empty
    was_empty : (j : ℕ) → j < 2 * n + 1 → code m laws (cell slots q j) ≡ 𝟘
    was_empty j l =
        from_zero m laws (cell slots q j)
        (all_empty m laws n es t slots given.shows q j inside l
        (to_zero m laws (cell slots q q) (given.shows.codes q q inside (omega arith)) (given.shows.rows q q inside inside ∙ free.row q inside)))

    after_code : (p j : ℕ) → p < n → j < 2 * n + 1
        → (cell after p j < m.order)
        × (code m laws (cell after p j) ≡ code m laws (cell slots p j) ⊕ kern Fd t.row_of q p ⊗ (Fd.inv (r q) ⊗ Y j))
    after_code p j lp lj = go (ℕ_discrete p q)
      where
        ld : j < length divided
        ld = omega arith

        go : Dec (p ≡ q)
            → (cell after p j < m.order)
            × (code m laws (cell after p j) ≡ code m laws (cell slots p j) ⊕ kern Fd t.row_of q p ⊗ (Fd.inv (r q) ⊗ Y j))
        go (yes h) =
            let i : cell after p j ≡ entries divided j = ap (λ x. cell after x j) h ∙ places.here j ld in (
              subst (λ x. x < m.order) (sym i) (divided_code j lj).0,
              ap (code m laws) i ∙ (divided_code j lj).1
                  ∙ sym
                  (ap (λ x. code m laws (cell slots x j) ⊕ kern Fd t.row_of q x ⊗ (Fd.inv (r q) ⊗ Y j)) h
                  ∙ at_pivot Fd (code m laws (cell slots q j)) (unit (code_ops m laws) q q) (t.row_of q q) (Fd.inv (r q) ⊗ Y j) (was_empty j lj)
                  (unit_same (code_ops m laws) q) (free.row q inside)),
            )
        go (no h) =
            let i = places.others p j lp h ld in
            let u = plus_code m laws (cell slots p q) (cell slots p j) (entries divided j) (given.shows.codes p q lp (omega arith)) (given.shows.codes p j lp lj) (divided_code j lj).0 in (
              subst (λ x. x < m.order) (sym i) u.0,
              ap (code m laws) i ∙ u.1
                  ∙ ap (λ x. code m laws (cell slots p j) ⊕ x)
                  (ap₂ (λ x y. ⊖ (x ⊗ y)) (given.shows.rows p q lp inside) (divided_code j lj).1
                  ∙ sym (at_other Fd (unit (code_ops m laws) q p) (t.row_of p q) (Fd.inv (r q) ⊗ Y j) (unit_other (code_ops m laws) q p h))),
            )

    pub kept_shows : Shows m laws n (es ++ (e ∷ [])) (tabled_more m laws n es t e opened) after
    unfolding tabled_more
    kept_shows = record {
      codes = λ p j lp lj. (after_code p j lp lj).0;
      rows = λ p j lp lj.
          (after_code p j lp (omega arith)).1
          ∙ ap₂ (λ x y. x ⊕ kern Fd t.row_of q p ⊗ (Fd.inv (r q) ⊗ y)) (given.shows.rows p j lp lj) (YRest j lj);
      values = λ p lp.
          (after_code p n lp (omega arith)).1
          ∙ ap₂ (λ x y. x ⊕ kern Fd t.row_of q p ⊗ (Fd.inv (r q) ⊗ y)) (given.shows.values p lp) YValue;
      weights = λ p i lp li.
          (after_code p (n + 1 + i) lp (omega arith)).1
          ∙ ap₂ (λ x y. x ⊕ kern Fd t.row_of q p ⊗ (Fd.inv (r q) ⊗ y)) (given.shows.weights p i lp li) (YWeight i li);
    }
