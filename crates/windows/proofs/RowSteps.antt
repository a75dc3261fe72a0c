-- The steps of the outer loop of the product: one more row of C is written.
use Rattle.std.proofs.Common.{◌≡◌, ℕ, ◌+◌, ◌-◌, ◌*◌, ◌<◌, ◌≤◌, List, ◌++◌, length, get_or, drop, sym, ap, ◌∙◌, subst, arith, length-append, length-drop, get_or-drop, mul-le-mul_right}
use native.Mathlib.Decide.{dec_lt, ℕ_discrete}
use borrow.Rule.Slice.PartMut.{put_mid}
use Rattle.std.proofs.lemmas.List.{get_or_append_left, drop-drop}
use Rattle.std.proofs.Math.Seq.{drop-append_seam}
use Rattle.algebra.specs.Meaning.{Meaning}
use Rattle.algebra.specs.Matrix.{Matrix, entry}
use Rattle.algebra.specs.Operations.{operations, dot, times}
use Rattle.algebra.proofs.Sums.{sum_cong}
use Rattle.algebra.proofs.Rows.{row_next, row_end, written_same, written_other, row_major_all}
use Rattle.windows.specs.Product.{product_cells}
use Rattle.windows.specs.Rows.{RowTimes}

-- what is left of a matrix of rows of n codes after its row k
module _ (k n : ℕ) (xs row ys : List ℕ) (split : drop (k * n) xs ≡ row ++ ys) (full : length row ≡ n) where
  pub row_entry : (j : ℕ) → j < n → get_or row j 0 ≡ entry n xs k j
  row_entry j l =
      sym (get_or_append_left row ys 0 j (omega arith)) ∙ sym (ap (λ l. get_or l j 0) split) ∙ get_or-drop (k * n) xs j 0

  pub rows_rest : ys ≡ drop ((k + 1) * n) xs
  rows_rest =
      sym (drop-append_seam row ys) ∙ sym (ap (drop (length row)) split) ∙ drop-drop (length row) (k * n) xs
      ∙ ap (λ i. drop i xs) (omega (arith, row_next k n))

-- the rows of A × B before k, and what is left of A
pub record Written (m : Meaning) (a b : Matrix) (k : ℕ) (rest into : List ℕ) : Type 0 where
  pub rest_part : rest ≡ drop (k * a.columns) a.cells
  pub passed : k ≤ a.rows
  pub entries : (i j : ℕ) → i < k → j < b.columns
      → entry b.columns into i j ≡ times (operations m) a.columns (entry a.columns a.cells) (entry b.columns b.cells) i j

module _ (m : Meaning) (a b : Matrix) (fits : length a.cells ≡ a.rows * a.columns) (some : 0 < a.columns) (k : ℕ) (rest before : List ℕ) (h : Written m a b k rest before) (room : length before ≡ a.rows * b.columns) where
  -- one more row is written
  pub written_more : (i k' : ℕ) (left others row : List ℕ) → i ≡ k → k' ≡ k + 1 → rest ≡ left ++ others → length left ≡ a.columns
      → length row ≡ b.columns → RowTimes m left b row
      → Written m a b k' others (put_mid (i * b.columns) ((i + 1) * b.columns - i * b.columns) before row)
  written_more i k' left others row ei ek er full wide product =
      subst (λ i. Written m a b k' others (put_mid (i * b.columns) ((i + 1) * b.columns - i * b.columns) before row)) (sym ei)
      (subst (λ k'. Written m a b k' others (put_mid (k * b.columns) ((k + 1) * b.columns - k * b.columns) before row)) (sym ek)
      (record {
        rest_part = rows_rest k a.columns a.cells left others split full;
        passed = omega (arith, below);
        entries = λ r j. written_entry r j (ℕ_discrete r k);
      }))
    where
      split : drop (k * a.columns) a.cells ≡ left ++ others
      split = sym h.rest_part ∙ er

      below : k < a.rows
      below = elim (dec_lt k a.rows) [
        | yes b ↦ b
        | no b ↦
            absurd (omega (arith, mul-le-mul_right {m = a.rows} {n = k} a.columns (omega arith), ap length split, length-append left others, length-drop (k * a.columns) a.cells))
      ]

      end : (k + 1) * b.columns ≤ length before
      end = omega (arith, row_end k a.rows b.columns below)

      written_entry : (r j : ℕ) → Dec (r ≡ k) → r < k + 1 → j < b.columns
          → entry b.columns (put_mid (k * b.columns) ((k + 1) * b.columns - k * b.columns) before row) r j ≡ times (operations m) a.columns (entry a.columns a.cells) (entry b.columns b.cells) r j
      written_entry r j (yes e) l w =
          ap (λ r. entry b.columns (put_mid (k * b.columns) ((k + 1) * b.columns - k * b.columns) before row) r j) e
          ∙ written_same b.columns before row k end wide j w
          ∙ product j w
          ∙ ap (λ n. dot (operations m) n (λ k. get_or left k 0) (λ k. entry b.columns b.cells k j)) full
          ∙ sum_cong (operations m) a.columns _ _ (λ i s. ap (λ x. m.product x (entry b.columns b.cells i j)) (row_entry k a.columns a.cells left others split full i s))
          ∙ ap (λ r. times (operations m) a.columns (entry a.columns a.cells) (entry b.columns b.cells) r j) (sym e)
      written_entry r j (no other) l w = written_other b.columns before row k end wide r j other w ∙ h.entries r j (omega arith) w

  -- all rows are written
  pub written_all : 0 < b.columns → length rest < a.columns → before ≡ product_cells m a b
  written_all wide end = row_major_all a.rows b.columns _ before room wide (λ i j l w. h.entries i j (omega (arith, last)) w)
    where
      last : k ≡ a.rows
      last = elim (dec_lt k a.rows) [
        | yes b ↦
            absurd (omega (arith, row_end k a.rows a.columns b, row_next k a.columns, ap length h.rest_part, length-drop (k * a.columns) a.cells))
        | no b ↦ omega (arith, h.passed)
      ]
