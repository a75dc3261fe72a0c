-- What the steps of elimination write, cell by cell.
use Rattle.std.specs.Prelude.{◌≡◌, ℕ, zero, suc, ◌<◌, cond, ◌≢◌, List, [], length, Some, None, Option, ◌==◌, slice_index_or}
use Rattle.algebra.specs.Meaning.{Meaning}
use Rattle.algebra.specs.Vectors.{entries}

-- cell j of row p
abbrev pub cell : List (List ℕ) → ℕ → ℕ → ℕ
cell rows p j = entries (slice_index_or rows p []) j

-- x with `by` times y added, or as it is where `by` is 0
abbrev pub plus_times : Meaning → ℕ → ℕ → ℕ → ℕ
plus_times m by x y = cond (by == 0) x (m.sum x (m.product by y))

-- x with the negative of each of the first k coefficients times what stands beside it added
abbrev pub taken_out : Meaning → (ℕ → ℕ) → (ℕ → ℕ) → ℕ → ℕ → ℕ
taken_out m c y x zero = x
taken_out m c y x (suc k) = plus_times m (m.negative (c k)) (taken_out m c y x k) (y k)

-- an equation as a row: its coefficients, its value, and zeros
pub record Extended (coefficients : List ℕ) (value : ℕ) (row : List ℕ) : Type 0 where
  pub front : (k : ℕ) → k < length coefficients → entries row k ≡ entries coefficients k
  pub middle : entries row (length coefficients) ≡ value
  pub back : (k : ℕ) → length coefficients < k → entries row k ≡ 0

-- the first of n cells that is not 0
abbrev pub FirstNonzero : ℕ → List ℕ → Option ℕ → Type 0
FirstNonzero n row None = (k : ℕ) → k < n → entries row k ≡ 0
FirstNonzero n row (Some q) = (q < n) × (entries row q ≢ 0) × ((k : ℕ) → k < q → entries row k ≡ 0)

-- the row is divided by its cell q, where that has an inverse
abbrev pub Divided : Meaning → ℕ → List ℕ → List ℕ → Type 0
Divided m q before after =
    entries before q < m.order → entries before q ≢ 0
    → (u : ℕ) × (u < m.order) × (m.product (entries before q) u ≡ 1)
    × ((k : ℕ) → k < length before → entries after k ≡ m.product u (entries before k))

-- column q is cleared by the row in each of the first n slots
abbrev pub Cleared : Meaning → ℕ → ℕ → List ℕ → List (List ℕ) → List (List ℕ) → Type 0
Cleared m n q row before after =
    (p j : ℕ) → p < n → j < length row
    → cell after p j ≡ plus_times m (m.negative (cell before p q)) (cell before p j) (entries row j)

-- column q is cleared by the row in each of the first n slots but slot q, which becomes the row
pub record Placed (m : Meaning) (n q : ℕ) (row : List ℕ) (before after : List (List ℕ)) : Type 0 where
  pub here : (j : ℕ) → j < length row → cell after q j ≡ entries row j
  pub others : (p j : ℕ) → p < n → p ≢ q → j < length row
      → cell after p j ≡ plus_times m (m.negative (cell before p q)) (cell before p j) (entries row j)
