-- Matrices of codes as lists, one row after another.
use Rattle.std.specs.Prelude.{ℕ, ◌+◌, ◌*◌, ◌/◌, ◌%◌, List, map, slice_index}
use Rattle.std.specs.List.{range_with_len}

-- the list f 0, .., f (n - 1)
abbrev pub tabulate : {A : Type 0} → ℕ → (ℕ → A) → List A
tabulate n f = map f (range_with_len 0 n)

-- the rows of a matrix, one after another
abbrev pub row_major : {A : Type 0} → ℕ → ℕ → (ℕ → ℕ → A) → List A
row_major rows columns f = tabulate (rows * columns) (λ k. f (k / columns) (k % columns))

-- the code in row i and column j of such a list
abbrev pub entry : ℕ → List ℕ → ℕ → ℕ → ℕ
entry columns cells i j = slice_index cells (i * columns + j)

-- a matrix of codes with its sides
pub record Matrix : Type 0 where
  pub rows : ℕ
  pub columns : ℕ
  pub cells : List ℕ
