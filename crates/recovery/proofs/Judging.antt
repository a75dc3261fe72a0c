-- What is left of an offer when the slots are taken out, and what follows where no coefficient is left.
use Rattle.std.proofs.Common.{◌≡◌, ℕ, zero, suc, ◌+◌, ◌-◌, ◌*◌, ◌<◌, ◌≤◌, ◌≢◌, List, length, sym, ap, ◌∙◌, subst, ap₂, arith}
use native.Mathlib.Decide.{ℕ_discrete, dec_lt}
use Rattle.algebra.specs.Meaning.{Meaning}
use Rattle.algebra.specs.Operations.{sum}
use Rattle.algebra.specs.Vectors.{Equation, entries, Sound, Sounds, Satisfies, Possible}
use Rattle.algebra.specs.Combinations.{Builds, value_sum}
use Rattle.algebra.proofs.Sums.{sum_cong}
use Rattle.linear.specs.Field.{FieldOn, FieldLaws}
use Rattle.linear.proofs.Identities.{+_assoc, +-zero, zero-+, +-neg, neg_sum, neg-*, neg_zero, neg_neg, zero-*, *-zero, from_less}
use Rattle.linear.proofs.Sums.{sum_zero}
use Rattle.linear.proofs.Weights.{combined}
use Rattle.linear.proofs.Codes.{Code, code, code_same, codes_at, code_sum, code_product, code_negative, to_zero, from_zero, zero_code, vec, field, code_ops}
use Rattle.linear.proofs.Systems.{coef, value_of, listed, listed_vector, listed_at, vectors_same, listed_builds, listed_value}
use Rattle.linear.proofs.Tables.{Tabled, tabled_few, rest, rest_value, closed_holds, closed_fails}
use Rattle.recovery.specs.Cells.{cell, plus_times, taken_out}
use Rattle.recovery.proofs.Showing.{Shows}
use Rattle.recovery.proofs.Steps.{plus_none, plus_some}

-- identities, over any field
module _ {K : Type 0} (F : FieldOn K) where
  open F.ring.ops use {𝟘, ◌⊕◌, ◌⊗◌, ⊖}

  no_term : (x c y : K) → ⊖ c ≡ 𝟘 → x ≡ x ⊕ ⊖ (c ⊗ y)
  no_term x c y z =
      sym (ap (λ k. x ⊕ k) (sym (neg-* F.ring c y) ∙ ap (λ k. k ⊗ y) z ∙ zero-* F.ring y) ∙ +-zero F.ring x)

  one_term : (x s u : K) → (x ⊕ ⊖ s) ⊕ ⊖ u ≡ x ⊕ ⊖ (s ⊕ u)
  one_term x s u = +_assoc F.ring x (⊖ s) (⊖ u) ∙ ap (λ k. x ⊕ k) (sym (neg_sum F.ring s u))

  pub to_difference : (x y : K) → y ≡ x → x ⊕ ⊖ y ≡ 𝟘
  to_difference x y e = ap (λ z. x ⊕ ⊖ z) e ∙ +-neg F.ring x

module _ (m : Meaning) (laws : FieldLaws m) where
  open (field m laws).ring.ops use {𝟘, ◌⊕◌, ◌⊗◌, ⊖}

  abbrev Fm : FieldOn (Code m)
  Fm = field m laws

  -- a code with a multiple of another taken out
  pub plus_code : (c x y : ℕ) → c < m.order → x < m.order → y < m.order
      → (plus_times m (m.negative c) x y < m.order)
      × (code m laws (plus_times m (m.negative c) x y) ≡ code m laws x ⊕ ⊖ (code m laws c ⊗ code m laws y))
  plus_code c x y hc hx hy = go (ℕ_discrete (m.negative c) 0)
    where
      hn : m.negative c < m.order
      hn = laws.ring.laws.negative_code c hc

      hp : m.product (m.negative c) y < m.order
      hp = laws.ring.laws.product_code _ _ hn hy

      go : Dec (m.negative c ≡ 0)
          → (plus_times m (m.negative c) x y < m.order)
          × (code m laws (plus_times m (m.negative c) x y) ≡ code m laws x ⊕ ⊖ (code m laws c ⊗ code m laws y))
      go (yes z) =
          let e = plus_none m (m.negative c) x y z in (
            subst (λ k. k < m.order) (sym e) hx,
            ap (code m laws) e ∙ no_term Fm (code m laws x) (code m laws c) (code m laws y) (sym (code_negative m laws c hc) ∙ from_zero m laws _ z),
          )
      go (no ne) =
          let e = plus_some m (m.negative c) x y ne in (
            subst (λ k. k < m.order) (sym e) (laws.ring.laws.sum_code _ _ hx hp),
            ap (code m laws) e ∙ code_sum m laws x _ hx hp
                ∙ ap (λ k. code m laws x ⊕ k)
                (code_product m laws (m.negative c) y hn hy ∙ ap (λ k. k ⊗ code m laws y) (code_negative m laws c hc) ∙ neg-* Fm.ring (code m laws c) (code m laws y)),
          )

  -- what is left of a cell
  pub taken_code : (c y : ℕ → ℕ) (x k : ℕ) → x < m.order → ((i : ℕ) → i < k → c i < m.order) → ((i : ℕ) → i < k → y i < m.order)
      → (taken_out m c y x k < m.order)
      × (code m laws (taken_out m c y x k) ≡ code m laws x ⊕ ⊖ (sum (code_ops m laws) k (λ i. code m laws (c i) ⊗ code m laws (y i))))
  taken_code c y x zero hx hc hy = (hx, sym (ap (λ k. code m laws x ⊕ k) (neg_zero Fm.ring) ∙ +-zero Fm.ring (code m laws x)))
  taken_code c y x (suc k) hx hc hy = go (taken_code c y x k hx (λ i l. hc i (omega arith)) (λ i l. hy i (omega arith)))
    where
      go : (taken_out m c y x k < m.order)
          × (code m laws (taken_out m c y x k) ≡ code m laws x ⊕ ⊖ (sum (code_ops m laws) k (λ i. code m laws (c i) ⊗ code m laws (y i))))
          → (plus_times m (m.negative (c k)) (taken_out m c y x k) (y k) < m.order)
          × (code m laws (plus_times m (m.negative (c k)) (taken_out m c y x k) (y k))
          ≡ code m laws x ⊕ ⊖ (sum (code_ops m laws) k (λ i. code m laws (c i) ⊗ code m laws (y i)) ⊕ code m laws (c k) ⊗ code m laws (y k)))
      go t =
          let u = plus_code (c k) (taken_out m c y x k) (y k) (hc k (omega arith)) t.0 (hy k (omega arith)) in (
            u.0,
            u.1 ∙ ap (λ z. z ⊕ ⊖ (code m laws (c k) ⊗ code m laws (y k))) t.1
                ∙ one_term Fm (code m laws x) (sum (code_ops m laws) k (λ i. code m laws (c i) ⊗ code m laws (y i))) (code m laws (c k) ⊗ code m laws (y k)),
          )

-- an equation as a row of cells, of n unknowns
pub record Row (n : ℕ) (e : Equation) (row : List ℕ) : Type 0 where
  pub front : (k : ℕ) → k < n → entries row k ≡ entries e.coefficients k
  pub middle : entries row n ≡ e.value
  pub back : (i : ℕ) → i < n → entries row (n + 1 + i) ≡ 0

-- what is left of an equation when the slots that show a table are taken out of its row
pub record Left (m : Meaning) (laws : FieldLaws m) (n : ℕ) (es : List Equation) (t : Tabled m laws n es) (slots : List (List ℕ)) (e : Equation) (left : List ℕ) : Type 0 where
  pub shows : Shows m laws n es t slots
  pub sounds : Sounds m n es
  pub sound : Sound m n e
  pub whole : List ℕ
  pub whole_row : Row n e whole
  pub reduced : (k : ℕ) → k < 2 * n + 1 → entries left k ≡ taken_out m (entries e.coefficients) (λ p. cell slots p k) (entries whole k) n

module _ (m : Meaning) (laws : FieldLaws m) (n : ℕ) (es : List Equation) (t : Tabled m laws n es) (slots : List (List ℕ)) (e : Equation) (left : List ℕ)
    (given : Left m laws n es t slots e left) where
  open (field m laws).ring.ops use {𝟘, 𝟙, ◌⊕◌, ◌⊗◌, ⊖}

  abbrev Fd : FieldOn (Code m)
  Fd = field m laws

  abbrev c : ℕ → Code m
  c = vec m laws e.coefficients

  coefficient : (p : ℕ) → entries e.coefficients p < m.order
  coefficient p = codes_at m laws e.coefficients given.sound.coefficients.codes p

  -- what the slots take out of cell k
  taken : ℕ → Code m
  taken k = sum (code_ops m laws) n (λ p. vec m laws e.coefficients p ⊗ code m laws (cell slots p k))

  left_code : (k : ℕ) → k < 2 * n + 1 → entries given.whole k < m.order
      → (entries left k < m.order) × (code m laws (entries left k) ≡ code m laws (entries given.whole k) ⊕ ⊖ (taken k))
  unfolding taken
  left_code k l h =
      let u = taken_code m laws (entries e.coefficients) (λ p. cell slots p k) (entries given.whole k) n h (λ p _. coefficient p) (λ p b. given.shows.codes p k b l) in
      (subst (λ x. x < m.order) (sym (given.reduced k l)) u.0, ap (code m laws) (given.reduced k l) ∙ u.1)

  -- the sums over the slots are those over the table
  over : (k : ℕ) (g : ℕ → Code m) → ((p : ℕ) → p < n → code m laws (cell slots p k) ≡ g p) → taken k ≡ sum (code_ops m laws) n (λ p. c p ⊗ g p)
  unfolding taken
  over k g h = sum_cong (code_ops m laws) n _ _ (λ p l. ap (λ x. c p ⊗ x) (h p l))

  pub left_rest : (j : ℕ) → j < n → (entries left j < m.order) × (code m laws (entries left j) ≡ rest m laws n es t e j)
  left_rest j l =
      let u = left_code j (omega arith) (subst (λ x. x < m.order) (sym (given.whole_row.front j l)) (coefficient j)) in
      (u.0, u.1 ∙ ap₂ (λ x y. code m laws x ⊕ ⊖ y) (given.whole_row.front j l) (over j (λ p. t.row_of p j) (λ p k. given.shows.rows p j k l)))

  pub left_value : (entries left n < m.order) × (code m laws (entries left n) ≡ rest_value m laws n es t e)
  left_value =
      let u = left_code n (omega arith) (subst (λ x. x < m.order) (sym given.whole_row.middle) given.sound.value) in
      (u.0, u.1 ∙ ap₂ (λ x y. code m laws x ⊕ ⊖ y) given.whole_row.middle (over n t.val_of given.shows.values))

  -- the weights that build what was taken out
  abbrev pub taken_weight : ℕ → Code m
  taken_weight i = sum (code_ops m laws) n (λ p. vec m laws e.coefficients p ⊗ t.weight_of p i)

  pub left_weight : (i : ℕ) → i < n → (entries left (n + 1 + i) < m.order) × (code m laws (entries left (n + 1 + i)) ≡ ⊖ (taken_weight i))
  left_weight i l =
      let u = left_code (n + 1 + i) (omega arith) (subst (λ x. x < m.order) (sym (given.whole_row.back i l)) (zero_code m laws)) in (
        u.0,
        u.1 ∙ ap₂ (λ x y. x ⊕ ⊖ y) (from_zero m laws (entries given.whole (n + 1 + i)) (given.whole_row.back i l)) (over (n + 1 + i) (λ p. t.weight_of p i) (λ p k. given.shows.weights p i k l))
            ∙ zero-+ Fd.ring (⊖ (taken_weight i)),
      )

  -- every cell that is left is a code
  pub left_all : (k : ℕ) → k < 2 * n + 1 → entries left k < m.order
  left_all k l = go (dec_lt k n) (ℕ_discrete k n)
    where
      go : Dec (k < n) → Dec (k ≡ n) → entries left k < m.order
      go (yes a) d = (left_rest k a).0
      go (no a) (yes b) = subst (λ x. entries left x < m.order) (sym b) left_value.0
      go (no a) (no b) =
          let i : n + 1 + (k - (n + 1)) ≡ k = omega arith in
          subst (λ x. entries left x < m.order) i (left_weight (k - (n + 1)) (omega arith)).0

  few : length es ≤ n
  few = tabled_few m laws n es t

  -- no coefficient is left, and `ws` are the negatives of the weights that are left
  module _ (none : (k : ℕ) → k < n → entries left k ≡ 0) (ws : List ℕ) (long : length ws ≡ n)
      (negatives : (k : ℕ) → k < n → entries ws k ≡ m.negative (entries left (n + 1 + k))) where
    closed : (q : ℕ) → q < n → rest m laws n es t e q ≡ 𝟘
    closed q l = sym (left_rest q l).1 ∙ from_zero m laws (entries left q) (none q l)

    weight_code : (k : ℕ) → k < n → (entries ws k < m.order) × (code m laws (entries ws k) ≡ taken_weight k)
    weight_code k l = (
      subst (λ x. x < m.order) (sym (negatives k l)) (laws.ring.laws.negative_code _ (left_weight k l).0),
      ap (code m laws) (negatives k l) ∙ code_negative m laws (entries left (n + 1 + k)) (left_weight k l).0
          ∙ ap ⊖ (left_weight k l).1 ∙ neg_neg Fd.ring (taken_weight k),
    )

    weights_listed : ws ≡ listed m laws n taken_weight
    weights_listed =
        vectors_same m laws n ws (listed m laws n taken_weight) (record { long = long; codes = λ i l. (weight_code i (omega arith)).0 }) (listed_vector m laws n taken_weight)
        (λ i l. (weight_code i l).1 ∙ sym (listed_at m laws n taken_weight i l))

    made : (g : ℕ → Code m) (h : ℕ → Code m) → ((p : ℕ) → p < n → sum (code_ops m laws) (length es) (λ i. t.weight_of p i ⊗ g i) ≡ h p)
        → sum (code_ops m laws) (length es) (λ i. taken_weight i ⊗ g i) ≡ sum (code_ops m laws) n (λ p. c p ⊗ h p)
    made g h k = combined Fd n (length es) t.weight_of c g h k

    pub closed_builds : Builds m n es ws e.coefficients
    closed_builds =
        subst (λ us. Builds m n es us e.coefficients) (sym weights_listed)
        (listed_builds m laws n es given.sounds few taken_weight e.coefficients given.sound.coefficients.codes
        (λ i l. sum_zero Fd.ring n _ (λ p k. ap (λ x. c p ⊗ x) (t.fresh p k i l) ∙ *-zero Fd.ring (c p)))
        (λ j l. made (λ i. coef m laws n es i j) (λ p. t.row_of p j) (λ p k. t.builds p k j l) ∙ sym (from_less Fd.ring (c j) _ (closed j l))))

    value_sum_lem : (value_sum m ws es < m.order) × (code m laws (value_sum m ws es) ≡ sum (code_ops m laws) n (λ p. c p ⊗ t.val_of p))
    value_sum_lem =
        let u = listed_value m laws n es given.sounds few taken_weight in (
          subst (λ us. value_sum m us es < m.order) (sym weights_listed) u.0,
          ap (λ us. code m laws (value_sum m us es)) weights_listed ∙ u.1 ∙ made (value_of m laws n es) t.val_of t.values,
        )

    pub implied_value : entries left n ≡ 0 → value_sum m ws es ≡ e.value
    implied_value h =
        code_same m laws _ e.value value_sum_lem.0 given.sound.value
        (value_sum_lem.1 ∙ sym (from_less Fd.ring (code m laws e.value) _ (sym left_value.1 ∙ from_zero m laws (entries left n) h)))

    pub missed_value : entries left n ≢ 0 → value_sum m ws es ≢ e.value
    missed_value h a =
        h (to_zero m laws (entries left n) left_value.0
        (left_value.1 ∙ to_difference Fd (code m laws e.value) _ (sym value_sum_lem.1 ∙ ap (code m laws) a)))

    pub implied_all : entries left n ≡ 0 → (v : List ℕ) → Possible m n es v → Satisfies m v e
    implied_all h = closed_holds m laws n es t e given.sounds given.sound closed (sym left_value.1 ∙ from_zero m laws (entries left n) h)

    pub missed_all : entries left n ≢ 0 → (v : List ℕ) → Possible m n es v → Satisfies m v e → ⊥
    missed_all h = closed_fails m laws n es t e given.sounds given.sound closed (λ a. h (to_zero m laws (entries left n) left_value.0 (left_value.1 ∙ a)))
