-- The reduced row echelon form of a list of equations.
use Rattle.std.specs.Prelude.{◌≡◌, ℕ, suc, ◌<◌, ◌≢◌, List, length, slice_index}
use Rattle.algebra.specs.Meaning.{Meaning}
use Rattle.algebra.specs.Vectors.{Equation, row, entries, Sounds}
use Rattle.algebra.specs.Combinations.{Builds, value_sum}

-- the row's first non-zero coefficient stands at p and is 1
pub record LeadsAt (n p : ℕ) (e : Equation) : Type 0 where
  pub inside : p < n
  pub before : (j : ℕ) → j < p → entries e.coefficients j ≡ 0
  pub one : entries e.coefficients p ≡ 1

-- rows that lead at the pivots, each right of the one above and the only non-zero entry of its column
pub record Echelon (n : ℕ) (rows : List Equation) (pivots : List ℕ) : Type 0 where
  pub long : length rows ≡ length pivots
  pub leads : (i : ℕ) → i < length pivots → LeadsAt n (slice_index pivots i) (row rows i)
  pub rising : (i : ℕ) → suc i < length pivots → slice_index pivots i < slice_index pivots (suc i)
  pub alone : (i k : ℕ) → i < length pivots → k < length pivots → i ≢ k → entries (row rows k).coefficients (slice_index pivots i) ≡ 0

-- the equation is a weighted sum of these
abbrev pub Built : Meaning → ℕ → List Equation → Equation → Type 0
Built m n es e = (ws : List ℕ) × Builds m n es ws e.coefficients × (value_sum m ws es ≡ e.value)

-- the rows are in echelon, and they and the equations are weighted sums of each other
pub record ReducedForm (m : Meaning) (n : ℕ) (es rows : List Equation) (pivots : List ℕ) : Type 0 where
  pub echelon : Echelon n rows pivots
  pub sound : Sounds m n rows
  pub from_equations : (i : ℕ) → i < length rows → Built m n es (row rows i)
  pub to_equations : (i : ℕ) → i < length es → Built m n rows (row es i)

-- equations with their reduced form
pub record Reduction (m : Meaning) (n : ℕ) (es : List Equation) : Type 0 where
  pub rows : List Equation
  pub pivots : List ℕ
  pub form : ReducedForm m n es rows pivots
