-- The steps of the loops over rows and slots.
use Rattle.std.proofs.Common.{Some, None, Option, ◌≡◌, ℕ, zero, suc, ◌+◌, ◌-◌, ◌<◌, ◌≤◌, eqb, ◌≢◌, List, [], ◌++◌, length, get_or, set, take, drop, replicate, sym, refl, ap, ◌∙◌, ap₂, add-one, arith, length-append, length-drop, get_or-drop, get_or-take, get_or-set_other, get_or-set_same, eq-eqb, ne_eqb}
use Rattle.std.proofs.lemmas.List.{get_or_append_left, get_or-append_right, length-take-le}
use Rattle.std.proofs.lemmas.Bool.{cond-true, cond-false}
use Rattle.algebra.specs.Meaning.{Meaning}
use Rattle.algebra.specs.Multiples.{MultipleAdded}
use Rattle.algebra.specs.Vectors.{entries}
use Rattle.recovery.specs.Cells.{cell, plus_times, taken_out, Extended, FirstNonzero, Cleared, Placed}

pub zeros_at : (n k : ℕ) → get_or {A = ℕ} (replicate n 0) k 0 ≡ 0
zeros_at zero k = refl
zeros_at (suc n) zero = refl
zeros_at (suc n) (suc k) = zeros_at n k

-- coefficients at the front of zeros, and a value after them
pub extended_row : (coefficients front : List ℕ) (value : ℕ) → front ≡ coefficients → length coefficients < 129
    → Extended coefficients value (set (front ++ drop (length coefficients) (replicate 129 0)) (length coefficients) value)
extended_row cs front value e l = record {
  front = λ k b.
      get_or-set_other (front ++ rest) (length cs) k value 0 (omega arith)
      ∙ get_or_append_left front rest 0 k (omega (arith, ap length e)) ∙ ap (λ s. entries s k) e;
  middle = get_or-set_same (front ++ rest) (length cs) value 0 (rw (length-append front rest) (omega (arith, ap length e, long)));
  back = λ k b.
      get_or-set_other (front ++ rest) (length cs) k value 0 (omega arith)
      ∙ get_or-append_right front rest (length cs) k 0 (ap length e) (omega arith)
      ∙ get_or-drop (length cs) (replicate 129 0) (k - length cs) 0 ∙ zeros_at 129 (length cs + (k - length cs));
}
  where
    rest : List ℕ
    rest = drop (length cs) (replicate 129 0)

    long : length rest ≡ 129 - length cs
    long = length-drop (length cs) (replicate 129 0)

module _ (m : Meaning) where
  pub plus_none : (by x y : ℕ) → by ≡ 0 → plus_times m by x y ≡ x
  plus_none by x y e = cond-true (eqb by 0) _ _ (eq-eqb by 0 e)

  pub plus_some : (by x y : ℕ) → by ≢ 0 → plus_times m by x y ≡ m.sum x (m.product by y)
  plus_some by x y ne = cond-false (eqb by 0) _ _ (ne_eqb by 0 ne)

  pub taken_more : (c y : ℕ → ℕ) (x k : ℕ) → taken_out m c y x (k + 1) ≡ plus_times m (m.negative (c k)) (taken_out m c y x k) (y k)
  taken_more c y x k = rw add-one

  -- a row that was added, where the multiple is not 0
  pub added : (before after row : List ℕ) (by j : ℕ) → MultipleAdded m before by row after → j < length row → j < length before → by ≢ 0
      → entries after j ≡ plus_times m by (entries before j) (entries row j)
  added before after row by j a lr lb ne = a.inside j lr lb ∙ sym (plus_some by (entries before j) (entries row j) ne)

  -- one more slot taken out: added, or passed over since nothing is to be added
  module _ (c start : ℕ → ℕ) (slots : List (List ℕ)) (left after : List ℕ) (by i : ℕ) (e : by ≡ m.negative (c i))
      (inv : (k : ℕ) → k < length left → entries left k ≡ taken_out m c (λ p. cell slots p k) (start k) i) where
    pub reduce_added : by ≢ 0 → MultipleAdded m left by (get_or slots i []) after → length left ≤ length (get_or slots i []) → (k : ℕ) → k < length left
        → entries after k ≡ taken_out m c (λ p. cell slots p k) (start k) (i + 1)
    reduce_added ne a long k l =
        added left after (get_or slots i []) by k a (omega arith) l ne
        ∙ ap₂ (λ b x. plus_times m b x (cell slots i k)) e (inv k l)
        ∙ sym (taken_more c (λ p. cell slots p k) (start k) i)

    pub reduce_passed : by ≡ 0 → after ≡ left → (k : ℕ) → k < length left → entries after k ≡ taken_out m c (λ p. cell slots p k) (start k) (i + 1)
    reduce_passed z same k l =
        ap (λ xs. entries xs k) same
        ∙ inv k l
        ∙ sym (plus_none (m.negative (c i)) (taken_out m c (λ p. cell slots p k) (start k) i) (cell slots i k) (sym e ∙ z))
        ∙ sym (taken_more c (λ p. cell slots p k) (start k) i)

  -- the first n slots cleared, and one of them written
  pub placed : (n q : ℕ) (row : List ℕ) (before cleared rest : List (List ℕ)) (slot : List ℕ) → n ≤ length before → q < n
      → length cleared ≡ length (take n before) → Cleared m (length (take n before)) q row (take n before) cleared
      → ((k : ℕ) → k < length row → entries slot k ≡ entries row k) → Placed m n q row before (set (cleared ++ rest) q slot)
  placed n q row before cleared rest slot within inside same cl w = record {
    here = λ j l. ap (λ s. entries s j) (get_or-set_same (cleared ++ rest) q slot [] (rw (length-append cleared rest) (omega (arith, same, long)))) ∙ w j l;
    others = λ p j lp ne l.
        ap (λ s. entries s j) (get_or-set_other (cleared ++ rest) q p slot [] ne ∙ get_or_append_left cleared rest [] p (omega (arith, same, long)))
        ∙ cl p j (omega (arith, long)) l
        ∙ ap (λ s. plus_times m (m.negative (entries s q)) (entries s j) (entries row j)) (get_or-take n before p [] lp);
  }
    where
      long : length (take n before) ≡ n
      long = length-take-le n before within

-- the first cell of the front that is not 0 is the first of n cells
pub first_of : (n : ℕ) (xs : List ℕ) (q : Option ℕ) → n ≤ length xs → FirstNonzero (length (take n xs)) (take n xs) q → FirstNonzero n xs q
first_of n xs None l h = λ k m. sym (get_or-take n xs k 0 m) ∙ h k (omega (arith, m, length-take-le n xs l))
first_of n xs (Some q) l h =
    let m : q < n = omega (arith, h.0, length-take-le n xs l) in (
      m,
      (λ z. h.1 (get_or-take n xs q 0 m ∙ z)),
      (λ k s. sym (get_or-take n xs k 0 (omega (arith, m, s))) ∙ h.2 k s),
    )
