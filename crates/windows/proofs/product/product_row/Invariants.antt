use Rattle.std.proofs.Common.{◌≡◌, ℕ, ◌<◌, length, get_or}
use Rattle.algebra.specs.Matrix.{entry}
use Rattle.algebra.specs.Operations.{operations, dot}
use Rattle.windows.proofs.product.product_row.Given as goal

-- the sums over the rows before k
abbrev pub invariant-loop-k : goal.invariant-loop-k
invariant-loop-k g l =
    (length l.into ≡ l.b.columns)
    × ((j : ℕ) → j < l.b.columns
    → get_or l.into j 0 ≡ dot (operations (g.R.Ring.meaning l.r)) l.k (λ k. get_or l.left k 0) (λ k. entry l.b.columns l.b.cells.now k j))
