-- What is replied to a request: a matrix, or a refusal.
use Rattle.std.specs.Prelude.{length, Ok, Err, Result}
use Rattle.std.specs.Result.{result_and}
use Rattle.algebra.specs.Meaning.{Meaning}
use Rattle.algebra.specs.Matrix.{Matrix}
use Rattle.windows.specs.Product.{product_answer, product_cells}
use Rattle.windows.specs.Sides.{checked}
use Rattle.windows.specs.declared.refusal.Refusal.{Refusal}
use Rattle.rings.specs.Modulo.{residues, words}
use Rattle.rings.specs.Octets.{octets}
use Rattle.requests.specs.Asked.{Asked, product, matrix_of}
use Rattle.requests.specs.declared.request.RingName.{RingName}
use Rattle.requests.specs.declared.request.RingName.TheVariants.{Words, Residues, Octets, OctetsByShifts}
use Rattle.requests.specs.declared.request.Table.{Table}

-- the check of a matrix as a window
abbrev pub checked_matrix : Matrix → Result (Unit {0}) Refusal
checked_matrix a = checked a.rows a.columns (length a.cells)

-- the checks of both matrices, and then those of their product
abbrev pub product_verdict : Meaning → Matrix → Matrix → Result (Unit {0}) Refusal
product_verdict m a b =
    result_and (result_and (checked_matrix a) (checked_matrix b)) (product_answer m.order a b a.rows b.columns)

-- the product of two matrices, where the checks pass
abbrev pub product_reply : Meaning → Matrix → Matrix → Result Matrix Refusal
product_reply m a b =
    result_and (product_verdict m a b) (Ok (record { rows = a.rows; columns = b.columns; cells = product_cells m a b }))

-- the ring of a name
abbrev pub meaning_of : RingName → Meaning
meaning_of Words = words
meaning_of Residues = residues
meaning_of Octets = octets
meaning_of OctetsByShifts = octets

-- what a request is to be answered with
abbrev pub reply_to : Asked → Result Matrix Refusal
reply_to (product ring a b) = product_reply (meaning_of ring) a b

-- what a reply says
abbrev pub replied : Result Table Refusal → Result Matrix Refusal
replied (Ok table) = Ok (matrix_of table)
replied (Err refusal) = Err refusal
