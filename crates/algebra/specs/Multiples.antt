-- What operations on rows of codes write.
use Rattle.std.specs.Prelude.{◌≡◌, ℕ, ◌<◌, ◌≤◌, List, length, slice_index}
use Rattle.algebra.specs.Meaning.{Meaning}

-- `after` is the row `before` with `by` times the row `row` added, as far as both go
pub record MultipleAdded (m : Meaning) (before : List ℕ) (by : ℕ) (row after : List ℕ) : Type 0 where
  pub inside : (k : ℕ) → k < length row → k < length before → slice_index after k ≡ m.sum (slice_index before k) (m.product by (slice_index row k))
  pub outside : (k : ℕ) → length row ≤ k → slice_index after k ≡ slice_index before k

-- `after` is `by` times the row `before`
abbrev pub Scaled : Meaning → List ℕ → ℕ → List ℕ → Type 0
Scaled m before by after = (k : ℕ) → k < length before → slice_index after k ≡ m.product by (slice_index before k)
