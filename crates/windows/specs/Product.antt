-- The product of two matrices: what the call answers, and what it writes.
use Rattle.std.specs.Prelude.{ℕ, Bool, cond, ◌&&◌, List, Ok, Err, Result, ◌==◌}
use Rattle.algebra.specs.Meaning.{Meaning}
use Rattle.algebra.specs.Operations.{operations, times}
use Rattle.algebra.specs.Matrix.{Matrix, row_major, entry}
use Rattle.algebra.specs.Outside.{first_outside}
use Rattle.windows.specs.Codes.{unless_outside}
use Rattle.windows.specs.declared.refusal.Refusal.{Refusal}
use Rattle.windows.specs.declared.refusal.Refusal.TheVariants.{Fit}

-- A has as many columns as B rows, and C, of the given sides, has the rows of A and the columns of B
abbrev pub product_fits : Matrix → Matrix → ℕ → ℕ → Bool
product_fits a b rows columns = a.columns == b.rows && (rows == a.rows && columns == b.columns)

-- whether the sides fit, then whether A, which is window 0, and then B, which is window 1, hold codes
abbrev pub product_answer : ℕ → Matrix → Matrix → ℕ → ℕ → Result (Unit {0}) Refusal
product_answer order a b rows columns =
    cond (product_fits a b rows columns)
    (unless_outside 0 (first_outside order 0 a.cells) (unless_outside 1 (first_outside order 0 b.cells) (Ok tt)))
    (Err Fit)

-- A × B, row after row: entry (i, j) is the sum over k of A's (i, k) times B's (k, j)
abbrev pub product_cells : Meaning → Matrix → Matrix → List ℕ
product_cells m a b =
    row_major a.rows b.columns
    (times (operations m) a.columns (entry a.columns a.cells) (entry b.columns b.cells))
