-- The canonical text of requests: decimal numerals, one blank between the words of a line, a line feed after each line.
use Rattle.std.specs.Prelude.{◌≡◌, ℕ, zero, suc, ◌*◌, ◌^◌, ◌<◌, List, [], ◌∷◌, ◌++◌, map, length, take, drop, None, codes, decimal, Option}
use Rattle.std.specs.List.{flat_map, AllByRecursion}
use Rattle.text.specs.Canonical.{line_of}
use Rattle.text.specs.declared.fault.Fault.{Fault}
use Rattle.requests.specs.declared.fault.Expected.{Expected}
use Rattle.requests.specs.Format.{row_lines, Reads}
use Rattle.algebra.specs.Matrix.{Matrix}
use Rattle.requests.specs.Asked.{Asked, product}
use Rattle.requests.specs.declared.request.RingName.{RingName}
use Rattle.requests.specs.declared.request.RingName.TheVariants.{Words, Residues, Octets, OctetsByShifts}

abbrev pub name_of : RingName → List ℕ
name_of Words = codes "words"
name_of Residues = codes "residues"
name_of Octets = codes "octets"
name_of OctetsByShifts = codes "octets-by-shifts"

-- the words of each line: of rows, of a matrix, of a request, and of requests one after another
abbrev pub row_words : ℕ → ℕ → List ℕ → List (List (List ℕ))
row_words zero columns cells = []
row_words (suc rows) columns cells = map decimal (take columns cells) ∷ row_words rows columns (drop columns cells)

abbrev pub matrix_words : Matrix → List (List (List ℕ))
matrix_words m = (decimal m.rows ∷ decimal m.columns ∷ []) ∷ row_words (row_lines m.rows m.columns) m.columns m.cells

abbrev pub request_words : Asked → List (List (List ℕ))
request_words (product ring left right) = (codes "product" ∷ name_of ring ∷ []) ∷ (matrix_words left ++ matrix_words right)

-- the text of requests
abbrev pub written : List Asked → List ℕ
written qs = flat_map line_of (flat_map request_words qs)

-- a matrix that has as many cells as its sides say, and only numbers below 2^32
pub record Proper (m : Matrix) : Type 0 where
  pub rows_fit : m.rows < 2 ^ 32
  pub columns_fit : m.columns < 2 ^ 32
  pub full : length m.cells ≡ m.rows * m.columns
  pub cells_fit : AllByRecursion (λ n. n < 2 ^ 32) m.cells

abbrev pub ProperRequest : Asked → Type 0
ProperRequest (product ring left right) = Proper left × Proper right

-- no other requests, and no other fault, can be read from the text
abbrev pub OneReading : List ℕ → List Asked → Option (Fault Expected) → Type 0
OneReading text ps f = (qs : List Asked) (g : Option (Fault Expected)) → Reads text qs g → (ps ≡ qs) × (f ≡ g)

-- where the text is the canonical text of some requests, those are read, and no fault
abbrev pub ReadBack : List ℕ → List Asked → Option (Fault Expected) → Type 0
ReadBack text ps f = (qs : List Asked) → AllByRecursion ProperRequest qs → text ≡ written qs → (ps ≡ qs) × (f ≡ None)
