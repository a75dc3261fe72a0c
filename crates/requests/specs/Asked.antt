-- What a request asks for.
use Rattle.std.specs.Prelude.{ℕ, List, vec_items, Vec}
use Rattle.std.specs.declared.alloc.Global.{Global}
use Rattle.algebra.specs.Matrix.{Matrix}
use Rattle.requests.specs.declared.request.Request.{Request}
use Rattle.requests.specs.declared.request.Request.TheVariants.{Product}
use Rattle.requests.specs.declared.request.RingName.{RingName}
use Rattle.requests.specs.declared.request.Table.{Table}

-- the product of two matrices over a ring
pub data Asked : Type 0 where
  product : RingName → Matrix → Matrix → Asked

-- the numbers in a vector, the matrix of a table, and what a request asks for
abbrev pub cells_of : Vec ℕ Global → List ℕ
cells_of v = vec_items v

abbrev pub matrix_of : Table → Matrix
matrix_of t = record { rows = t.rows; columns = t.columns; cells = cells_of t.cells }

abbrev pub asked_by : Request → Asked
asked_by (Product ring left right) = product ring (matrix_of left) (matrix_of right)
