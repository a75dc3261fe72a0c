-- What a row of a product is.
use Rattle.std.specs.Prelude.{◌≡◌, ℕ, ◌<◌, List, length, slice_index}
use Rattle.algebra.specs.Meaning.{Meaning}
use Rattle.algebra.specs.Matrix.{Matrix, entry}
use Rattle.algebra.specs.Operations.{operations, dot}

-- `after` is the row `left` times the matrix b
abbrev pub RowTimes : Meaning → List ℕ → Matrix → List ℕ → Type 0
RowTimes m left b after =
    (j : ℕ) → j < b.columns → slice_index after j ≡ dot (operations m) (length left) (λ k. slice_index left k) (λ k. entry b.columns b.cells k j)
