-- Tests that are computed at numbers, and what they show of vectors, weights and reduced forms.
use Rattle.std.proofs.Common.{◌≡◌, ℕ, suc, ◌-◌, ◌<◌, ◌≤◌, Bool, true, ◌&&◌, ◌||◌, eqb, ltb, ◌≢◌, List, [], length, get_or, refl, arith}
use Rattle.std.proofs.lemmas.Bool.{and_parts, eqb-true, ltb-true}
use Rattle.std.proofs.lemmas.Bool.Decides.{Decides-below_and, nat_tests}
use Rattle.algebra.specs.Meaning.{Meaning}
use Rattle.algebra.specs.Operations.{operations, dot}
use Rattle.algebra.specs.Vectors.{Equation, row, entries, Vector, Sound, Possible}
use Rattle.algebra.specs.Combinations.{Builds, column_sum, value_sum}
use Rattle.logs.specs.Reduced.{LeadsAt, Echelon, Built, ReducedForm}
use Rattle.rings.specs.Computed.{below}

-- a test that passes at each number below a bound
pub passes : (p : ℕ → Bool) (n : ℕ) → below p n ≡ true → (k : ℕ) → k < n → p k ≡ true
passes p n = (Decides-below_and p (λ k. p k ≡ true) (below p) (λ k. ((λ e. e), (λ e. e))) refl (λ k. refl) n).0

-- zeros, but at a number
pub zero_or : (i k x : ℕ) → (eqb i k || eqb x 0) ≡ true → i ≢ k → x ≡ 0
zero_or i k x t ne = grind (arith, nat_tests)

-- zeros from a number on
zero_past : (i k x : ℕ) → (ltb i k || eqb x 0) ≡ true → k ≤ i → x ≡ 0
zero_past i k x t l = grind (arith, nat_tests)

module _ (m : Meaning) (n : ℕ) where
  abbrev pub is_vector : List ℕ → Bool
  is_vector v = eqb (length v) n && below (λ i. ltb (entries v i) m.order) (length v)

  pub vector_by : (v : List ℕ) → is_vector v ≡ true → Vector m n v
  vector_by v t =
      let h = and_parts _ _ t in
      record { long = eqb-true (length v) n h.0; codes = λ i l. ltb-true _ _ (passes (λ i. ltb (entries v i) m.order) (length v) h.1 i l) }

  abbrev pub satisfies : List ℕ → Equation → Bool
  satisfies v e = eqb (dot (operations m) (length v) (entries e.coefficients) (entries v)) e.value

  abbrev pub is_possible : List Equation → List ℕ → Bool
  is_possible es v = is_vector v && below (λ i. satisfies v (row es i)) (length es)

  pub possible_by : (es : List Equation) (v : List ℕ) → is_possible es v ≡ true → Possible m n es v
  possible_by es v t =
      let h = and_parts _ _ t in
      record { vector = vector_by v h.0; meets = λ i l. eqb-true _ _ (passes (λ i. satisfies v (row es i)) (length es) h.1 i l) }

  abbrev pub is_sound : Equation → Bool
  is_sound e = is_vector e.coefficients && ltb e.value m.order

  sound_by : (e : Equation) → is_sound e ≡ true → Sound m n e
  sound_by e t =
      let h = and_parts _ _ t in
      record { coefficients = vector_by e.coefficients h.0; value = ltb-true e.value m.order h.1 }

  -- weights that build coefficients, and an equation
  abbrev pub builds : List Equation → List ℕ → List ℕ → Bool
  builds es ws cs =
      is_vector ws
      && (below (λ i. ltb i (length es) || eqb (entries ws i) 0) n && below (λ j. eqb (column_sum m ws es j) (entries cs j)) n)

  pub builds_by : (es : List Equation) (ws cs : List ℕ) → builds es ws cs ≡ true → Builds m n es ws cs
  builds_by es ws cs t =
      let h = and_parts _ _ t in
      let k = and_parts _ _ h.1 in
      let v = vector_by ws h.0 in
      record {
        long = v.long;
        codes = v.codes;
        rest = λ i l b. zero_past i (length es) (entries ws i) (passes (λ i. ltb i (length es) || eqb (entries ws i) 0) n k.0 i b) l;
        columns = λ j l. eqb-true _ _ (passes (λ j. eqb (column_sum m ws es j) (entries cs j)) n k.1 j l);
      }

  abbrev pub is_built : List Equation → List ℕ → Equation → Bool
  is_built es ws e = builds es ws e.coefficients && eqb (value_sum m ws es) e.value

  built_by : (es : List Equation) (ws : List ℕ) (e : Equation) → is_built es ws e ≡ true → Built m n es e
  built_by es ws e t =
      let h = and_parts _ _ t in
      (ws, builds_by es ws e.coefficients h.0, eqb-true _ _ h.1)

  -- rows in reduced form, the weights that build them from equations, and those that build the equations from them
  module _ (es rows : List Equation) (pivots : List ℕ) (from to : List (List ℕ)) where
    abbrev piv : ℕ → ℕ
    piv i = get_or pivots i 0

    abbrev cell : ℕ → ℕ → ℕ
    cell i = entries (row rows i).coefficients

    abbrev leads : ℕ → Bool
    leads i = ltb (piv i) n && (below (λ j. eqb (cell i j) 0) (piv i) && eqb (cell i (piv i)) 1)

    abbrev rises : ℕ → Bool
    rises i = ltb (piv i) (piv (suc i))

    abbrev alone : ℕ → Bool
    alone i = below (λ k. eqb i k || eqb (cell k (piv i)) 0) (length pivots)

    abbrev in_echelon : Bool
    in_echelon =
        eqb (length rows) (length pivots)
        && (below leads (length pivots) && (below rises (length pivots - 1) && below alone (length pivots)))

    leads_by : (i : ℕ) → leads i ≡ true → LeadsAt n (piv i) (row rows i)
    leads_by i t =
        let h = and_parts _ _ t in
        let k = and_parts _ _ h.1 in
        record {
          inside = ltb-true (piv i) n h.0;
          before = λ j l. eqb-true _ _ (passes (λ j. eqb (cell i j) 0) (piv i) k.0 j l);
          one = eqb-true _ _ k.1;
        }

    echelon_by : in_echelon ≡ true → Echelon n rows pivots
    echelon_by t =
        let h = and_parts _ _ t in
        let k = and_parts _ _ h.1 in
        let j = and_parts _ _ k.1 in
        record {
          long = eqb-true _ _ h.0;
          leads = λ i l. leads_by i (passes leads (length pivots) k.0 i l);
          rising = λ i l. ltb-true _ _ (passes rises (length pivots - 1) j.0 i (omega arith));
          alone = λ i x li lx ne.
              zero_or i x (cell x (piv i))
              (passes (λ k. eqb i k || eqb (cell k (piv i)) 0) (length pivots) (passes alone (length pivots) j.1 i li) x lx) ne;
        }

    abbrev pub is_reduced : Bool
    is_reduced =
        in_echelon
        && (below (λ i. is_sound (row rows i)) (length rows)
        && (below (λ i. is_built es (get_or from i []) (row rows i)) (length rows)
        && below (λ i. is_built rows (get_or to i []) (row es i)) (length es)))

    pub form_by : is_reduced ≡ true → ReducedForm m n es rows pivots
    form_by t =
        let h = and_parts _ _ t in
        let k = and_parts _ _ h.1 in
        let j = and_parts _ _ k.1 in
        record {
          echelon = echelon_by h.0;
          sound = λ i l. sound_by (row rows i) (passes (λ i. is_sound (row rows i)) (length rows) k.0 i l);
          from_equations = λ i l.
              built_by es (get_or from i []) (row rows i) (passes (λ i. is_built es (get_or from i []) (row rows i)) (length rows) j.0 i l);
          to_equations = λ i l.
              built_by rows (get_or to i []) (row es i) (passes (λ i. is_built rows (get_or to i []) (row es i)) (length es) j.1 i l);
        }
