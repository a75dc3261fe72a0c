-- The rows of a matrix that is kept as a list: where they lie, what a part of the list shows of one, and what a write to one leaves.
use Rattle.std.proofs.Common.{◌≡◌, ℕ, ◌+◌, ◌-◌, ◌*◌, ◌/◌, ◌%◌, ◌<◌, ◌≤◌, List, ◌++◌, length, get_or, take, drop, sym, ap, ◌∙◌, ap₂, mul-le-mul_right, add-mul, one-mul, arith, length-drop, get_or-drop, get_or-take}
use native.Mathlib.Decide.{dec_lt}
use borrow.Rule.Slice.PartMut.{put_mid, post_of}
use Rattle.std.proofs.lemmas.List.{get_or_append_left, get_or-append_right, length-take-le}
use Rattle.std.proofs.lemmas.List.FromFn.{fill_by_all, get_or-map-range_with_len}
use Rattle.std.proofs.lemmas.Nat.{div-mul-add, mod-mul-add, div_below, mod_below, div-add-mod'}
use Rattle.algebra.specs.Matrix.{row_major, entry}

pub row_next : (i n : ℕ) → (i + 1) * n ≡ i * n + n
row_next i n = add-mul i 1 n ∙ ap (λ x. i * n + x) (one-mul n)

-- a row ends within the matrix
pub row_end : (i m n : ℕ) → i < m → (i + 1) * n ≤ m * n
row_end i m n h = mul-le-mul_right n (omega arith)

pub place_within : (i j m n : ℕ) → i < m → j < n → i * n + j < m * n
place_within i j m n h k = omega (arith, row_end i m n h, row_next i n)

-- a row ends before a later one begins
pub rows_apart : (i k n : ℕ) → i < k → i * n + n ≤ k * n
rows_apart i k n h = omega (arith, row_end i k n h, row_next i n)

-- row i as a part of the list
module _ (n : ℕ) (xs : List ℕ) (i : ℕ) where
  pub part_length : (i + 1) * n ≤ length xs → length (take ((i + 1) * n - i * n) (drop (i * n) xs)) ≡ n
  part_length h =
      length-take-le ((i + 1) * n - i * n) (drop (i * n) xs) (simp length-drop (omega (arith, row_next i n)))
      ∙ omega (arith, row_next i n)

  pub part_entry : (j : ℕ) → j < n → get_or (take ((i + 1) * n - i * n) (drop (i * n) xs)) j 0 ≡ entry n xs i j
  part_entry j l =
      let h : j < (i + 1) * n - i * n = omega (arith, row_next i n) in
      get_or-take ((i + 1) * n - i * n) (drop (i * n) xs) j 0 h ∙ get_or-drop (i * n) xs j 0

-- the list after row i was written with ys
module _ (n : ℕ) (xs ys : List ℕ) (i : ℕ) (within : (i + 1) * n ≤ length xs) (full : length ys ≡ n) where
  front : length (take (i * n) xs) ≡ i * n
  front = length-take-le (i * n) xs (omega (arith, row_next i n, within))

  rest : List ℕ
  rest = ys ++ post_of (i * n) ((i + 1) * n - i * n) xs

  pub written_same : (j : ℕ) → j < n → entry n (put_mid (i * n) ((i + 1) * n - i * n) xs ys) i j ≡ get_or ys j 0
  unfolding rest
  written_same j l =
      get_or-append_right (take (i * n) xs) rest (i * n) (i * n + j) 0 front (omega arith)
      ∙ ap (λ k. get_or rest k 0) (omega arith)
      ∙ get_or_append_left ys _ 0 j (omega (arith, full))

  before : (k : ℕ) → k < i * n → get_or (put_mid (i * n) ((i + 1) * n - i * n) xs ys) k 0 ≡ get_or xs k 0
  before k l = get_or_append_left (take (i * n) xs) _ 0 k (omega (arith, front)) ∙ get_or-take (i * n) xs k 0 l

  after : (k : ℕ) → i * n + n ≤ k → get_or (put_mid (i * n) ((i + 1) * n - i * n) xs ys) k 0 ≡ get_or xs k 0
  unfolding rest
  after k l =
      get_or-append_right (take (i * n) xs) rest (i * n) k 0 front (omega arith)
      ∙ get_or-append_right ys (post_of (i * n) ((i + 1) * n - i * n) xs) n (k - i * n) 0 full (omega arith)
      ∙ get_or-drop ((i + 1) * n - i * n) (drop (i * n) xs) (k - i * n - n) 0
      ∙ get_or-drop (i * n) xs ((i + 1) * n - i * n + (k - i * n - n)) 0
      ∙ ap (λ p. get_or xs p 0) (omega (arith, row_next i n))

  pub written_other : (r j : ℕ) → ¬ (r ≡ i) → j < n → entry n (put_mid (i * n) ((i + 1) * n - i * n) xs ys) r j ≡ entry n xs r j
  written_other r j other l = go (dec_lt r i)
    where
      go : Dec (r < i) → entry n (put_mid (i * n) ((i + 1) * n - i * n) xs ys) r j ≡ entry n xs r j
      go (yes h) = before (r * n + j) (omega (arith, rows_apart r i n h))
      go (no h) = let h' : i < r = omega arith in after (r * n + j) (omega (arith, rows_apart i r n h'))

module _ (m n : ℕ) (f : ℕ → ℕ → ℕ) where
  -- a list whose every entry is known
  pub row_major_all : (xs : List ℕ) → length xs ≡ m * n → 0 < n → ((i j : ℕ) → i < m → j < n → entry n xs i j ≡ f i j) → xs ≡ row_major m n f
  row_major_all xs long some entries =
      fill_by_all (λ k. f (k / n) (k % n)) xs (m * n) 0 long
      (λ k l. ap (λ q. get_or xs q 0) (sym (div-add-mod' k n)) ∙ entries (k / n) (k % n) (div_below k n m some l) (mod_below k n some))

  pub row_major_entry : (i j : ℕ) → i < m → j < n → entry n (row_major m n f) i j ≡ f i j
  row_major_entry i j h l =
      get_or-map-range_with_len (λ k. f (k / n) (k % n)) 0 (m * n) (i * n + j) (i * n + j) 0 (place_within i j m n h l) (omega arith)
      ∙ ap₂ f (div-mul-add i n j l) (mod-mul-add i n j l)
