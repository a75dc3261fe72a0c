-- Equations on codes, carried to the field of codes.
use Rattle.std.proofs.Common.{◌≡◌, ℕ, suc, ◌<◌, ◌≤◌, List, [], ◌∷◌, ◌++◌, length, get_or, sym, refl, ap, ◌∙◌, subst, arith, length-append, ext_get_or}
use native.Mathlib.Decide.{dec_lt}
use Rattle.std.proofs.lemmas.List.{get_or_append_left, get_or_push}
use Rattle.std.proofs.lemmas.List.FromFn.{get_or-map-range_with_len, length-map-range_with_len}
use Rattle.algebra.specs.Matrix.{tabulate}
use Rattle.algebra.specs.Meaning.{Meaning}
use Rattle.algebra.specs.Operations.{operations, dot}
use Rattle.algebra.specs.Vectors.{Equation, nothing, row, entries, Codes, Vector, Sound, Sounds, Satisfies, Possible}
use Rattle.algebra.specs.Combinations.{Builds, column_sum, value_sum}
use Rattle.algebra.proofs.Sums.{sum_cong}
use Rattle.linear.specs.Field.{FieldLaws}
use Rattle.linear.proofs.Sums.{dot_cong}
use Rattle.linear.proofs.Codes.{Code, code, code_at, code_same, codes_at, vec, field, code_ops, dot_codes}

-- an entry of a list that is made by a function
pub tabulated : (f : ℕ → ℕ) (n i : ℕ) → i < n → get_or (tabulate n f) i 0 ≡ f i
tabulated f n i l = get_or-map-range_with_len f 0 n i i 0 l (omega arith)

-- the equations before a new one, and the new one
pub row_before : (es : List Equation) (e : Equation) (i : ℕ) → i < length es → row (es ++ (e ∷ [])) i ≡ row es i
row_before es e i l = get_or_append_left es (e ∷ []) nothing i l

pub row_last : (es : List Equation) (e : Equation) → row (es ++ (e ∷ [])) (length es) ≡ e
row_last es e = get_or_push es e nothing (length es) refl

pub length_more : (es : List Equation) (e : Equation) → length (es ++ (e ∷ [])) ≡ suc (length es)
length_more es e = length-append es (e ∷ []) ∙ omega arith

-- what holds of each equation, and of a new one
pub each_more : (P : Equation → Type 0) (es : List Equation) (e : Equation) → ((i : ℕ) → i < length es → P (row es i)) → P e
    → (i : ℕ) → i < length (es ++ (e ∷ [])) → P (row (es ++ (e ∷ [])) i)
each_more P es e h here i l = go (dec_lt i (length es))
  where
    b : i < suc (length es)
    b = rw (length_more es e) at l

    go : Dec (i < length es) → P (row (es ++ (e ∷ [])) i)
    go (yes k) = subst P (sym (row_before es e i k)) (h i k)
    go (no k) = let s : i ≡ length es = omega (arith, b) in subst P (sym (ap (row (es ++ (e ∷ []))) s ∙ row_last es e)) here

pub each_fewer : (P : Equation → Type 0) (es : List Equation) (e : Equation)
    → ((i : ℕ) → i < length (es ++ (e ∷ [])) → P (row (es ++ (e ∷ [])) i))
    → ((i : ℕ) → i < length es → P (row es i)) × P e
each_fewer P es e h = (
  (λ i l. subst P (row_before es e i l) (h i (rw (length_more es e) (omega arith)))),
  subst P (row_last es e) (h (length es) (rw (length_more es e) (omega arith))),
)

-- one equation more leaves the vectors possible that satisfy it too
module _ (m : Meaning) (n : ℕ) (es : List Equation) (e : Equation) (v : List ℕ) where
  pub possible_more : Possible m n es v → Satisfies m v e → Possible m n (es ++ (e ∷ [])) v
  possible_more p s = record { vector = p.vector; meets = each_more (Satisfies m v) es e p.meets s }

  pub possible_fewer : Possible m n (es ++ (e ∷ [])) v → Possible m n es v × Satisfies m v e
  possible_fewer p =
      let t = each_fewer (Satisfies m v) es e p.meets in
      (record { vector = p.vector; meets = t.0 }, t.1)

module _ (m : Meaning) (laws : FieldLaws m) (n : ℕ) where
  open (field m laws).ring.ops use {𝟘, 𝟙, ◌⊕◌, ◌⊗◌, ⊖}

  -- the coefficients and the value of an equation over the field
  abbrev pub coef : List Equation → ℕ → ℕ → Code m
  coef es i = vec m laws (row es i).coefficients

  abbrev pub value_of : List Equation → ℕ → Code m
  value_of es i = code m laws (row es i).value

  abbrev pub Meets : List Equation → (ℕ → Code m) → Type 0
  Meets es v = (i : ℕ) → i < length es → dot (code_ops m laws) n (coef es i) v ≡ value_of es i

  pub dot_vec : (xs ys : List ℕ) → Codes m xs → Vector m n ys
      → (dot (operations m) (length ys) (entries xs) (entries ys) < m.order)
      × (code m laws (dot (operations m) (length ys) (entries xs) (entries ys)) ≡ dot (code_ops m laws) n (vec m laws xs) (vec m laws ys))
  dot_vec xs ys hx hy =
      let t = dot_codes m laws (length ys) (entries xs) (entries ys) (λ i _. codes_at m laws xs hx i) (λ i _. codes_at m laws ys hy.codes i) in
      (t.0, t.1 ∙ ap (λ k. dot (code_ops m laws) k (vec m laws xs) (vec m laws ys)) hy.long)

  module _ (e : Equation) (v : List ℕ) (s : Sound m n e) (hv : Vector m n v) where
    pub satisfies_to : Satisfies m v e → dot (code_ops m laws) n (vec m laws e.coefficients) (vec m laws v) ≡ code m laws e.value
    satisfies_to h = sym (dot_vec e.coefficients v s.coefficients.codes hv).1 ∙ ap (code m laws) h

    pub satisfies_from : dot (code_ops m laws) n (vec m laws e.coefficients) (vec m laws v) ≡ code m laws e.value → Satisfies m v e
    satisfies_from h =
        let t = dot_vec e.coefficients v s.coefficients.codes hv in
        code_same m laws _ e.value t.0 s.value (t.1 ∙ h)

  pub meets_to : (es : List Equation) (v : List ℕ) → Sounds m n es → Possible m n es v → Meets es (vec m laws v)
  meets_to es v s p i l = satisfies_to (row es i) v (s i l) p.vector (p.meets i l)

  pub meets_from : (es : List Equation) (v : List ℕ) → Sounds m n es → Vector m n v → Meets es (vec m laws v) → Possible m n es v
  meets_from es v s hv h = record { vector = hv; meets = λ i l. satisfies_from (row es i) v (s i l) hv (h i l) }

  -- a function's first n codes as a list
  abbrev pub listed : (ℕ → Code m) → List ℕ
  listed v = tabulate n (λ i. (v i).0)

  pub listed_vector : (v : ℕ → Code m) → Vector m n (listed v)
  listed_vector v = record {
    long = length-map-range_with_len (λ i. (v i).0) 0 n;
    codes = λ i l.
        let k : i < n = rw (length-map-range_with_len (λ i. (v i).0) 0 n) at l in
        rw (tabulated (λ i. (v i).0) n i k) (v i).1;
  }

  pub listed_at : (v : ℕ → Code m) (i : ℕ) → i < n → vec m laws (listed v) i ≡ v i
  listed_at v i l = ap (code m laws) (tabulated (λ i. (v i).0) n i l) ∙ code_at m laws (v i).0 (v i).1

  listed_dot : (c v : ℕ → Code m) → dot (code_ops m laws) n c (vec m laws (listed v)) ≡ dot (code_ops m laws) n c v
  listed_dot c v = dot_cong (field m laws).ring n c (vec m laws (listed v)) v (listed_at v)

  -- a vector over the field is possible if and only if it meets the equations there
  pub listed_possible : (es : List Equation) (v : ℕ → Code m) → Sounds m n es → Meets es v → Possible m n es (listed v)
  listed_possible es v s h = meets_from es (listed v) s (listed_vector v) (λ i l. listed_dot (coef es i) v ∙ h i l)

  pub possible_listed : (es : List Equation) (v : ℕ → Code m) → Sounds m n es → Possible m n es (listed v) → Meets es v
  possible_listed es v s p i l = sym (listed_dot (coef es i) v) ∙ meets_to es (listed v) s p i l

  pub listed_satisfies : (e : Equation) (v : ℕ → Code m) → Sound m n e
      → (dot (code_ops m laws) n (vec m laws e.coefficients) v ≡ code m laws e.value → Satisfies m (listed v) e)
      × (Satisfies m (listed v) e → dot (code_ops m laws) n (vec m laws e.coefficients) v ≡ code m laws e.value)
  listed_satisfies e v s = (
    (λ h. satisfies_from e (listed v) s (listed_vector v) (listed_dot (vec m laws e.coefficients) v ∙ h)),
    (λ h. sym (listed_dot (vec m laws e.coefficients) v) ∙ satisfies_to e (listed v) s (listed_vector v) h),
  )

  -- two vectors with the same codes
  pub vectors_same : (v w : List ℕ) → Vector m n v → Vector m n w → ((i : ℕ) → i < n → vec m laws v i ≡ vec m laws w i) → v ≡ w
  vectors_same v w hv hw h =
      ext_get_or 0 v w (hv.long ∙ sym hw.long)
      (λ i l. code_same m laws (get_or v i 0) (get_or w i 0) (hv.codes i l) (codes_at m laws w hw.codes i) (h i (rw hv.long at l)))

  -- what weights make of the equations
  module _ (ws : List ℕ) (es : List Equation) (cw : Codes m ws) (s : Sounds m n es) where
    pub column_code : (j : ℕ)
        → (column_sum m ws es j < m.order)
        × (code m laws (column_sum m ws es j) ≡ dot (code_ops m laws) (length es) (vec m laws ws) (λ i. coef es i j))
    column_code j =
        dot_codes m laws (length es) (entries ws) (λ i. entries (row es i).coefficients j) (λ i _. codes_at m laws ws cw i)
        (λ i l. codes_at m laws (row es i).coefficients (s i l).coefficients.codes j)

    pub value_code :
        (value_sum m ws es < m.order)
        × (code m laws (value_sum m ws es) ≡ dot (code_ops m laws) (length es) (vec m laws ws) (value_of es))
    value_code =
        dot_codes m laws (length es) (entries ws) (λ i. (row es i).value) (λ i _. codes_at m laws ws cw i) (λ i l. (s i l).value)

  -- weights over the field, as a list
  module _ (es : List Equation) (s : Sounds m n es) (few : length es ≤ n) (w : ℕ → Code m) where
    listed_weights : (f : ℕ → Code m) → dot (code_ops m laws) (length es) (vec m laws (listed w)) f ≡ dot (code_ops m laws) (length es) w f
    listed_weights f = sum_cong (code_ops m laws) (length es) _ _ (λ i l. ap (λ x. x ⊗ f i) (listed_at w i (omega arith)))

    pub listed_builds : (cs : List ℕ) → Codes m cs → ((i : ℕ) → length es ≤ i → w i ≡ 𝟘)
        → ((j : ℕ) → j < n → dot (code_ops m laws) (length es) w (λ i. coef es i j) ≡ vec m laws cs j)
        → Builds m n es (listed w) cs
    listed_builds cs hc past columns = record {
      long = (listed_vector w).long;
      codes = (listed_vector w).codes;
      rest = λ i l b. tabulated (λ i. (w i).0) n i b ∙ ap (λ c. c.0) (past i l);
      columns = λ j l.
          let u = column_code (listed w) es (listed_vector w).codes s j in
          code_same m laws _ _ u.0 (codes_at m laws cs hc j) (u.1 ∙ listed_weights (λ i. coef es i j) ∙ columns j l);
    }

    pub listed_value :
        (value_sum m (listed w) es < m.order)
        × (code m laws (value_sum m (listed w) es) ≡ dot (code_ops m laws) (length es) w (value_of es))
    listed_value =
        let u = value_code (listed w) es (listed_vector w).codes s in
        (u.0, u.1 ∙ listed_weights (value_of es))
