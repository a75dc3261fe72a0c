-- The format of requests: which matrices and rings the lines of a text name, and where a text does not fit.
use Rattle.std.specs.Prelude.{◌≡◌, ℕ, zero, suc, cond, List, [], ◌∷◌, ◌++◌, Some, None, Ok, Err, codes, Option, Result, ◌==◌}
use Rattle.std.specs.Option.{ok_or}
use Rattle.std.specs.Str.{bytes_eq}
use Rattle.algebra.specs.Matrix.{Matrix}
use Rattle.requests.specs.Asked.{Asked, product}
use Rattle.text.specs.Lines.{Lines, end, line, meaningful}
use Rattle.text.specs.Numbers.{number}
use Rattle.text.specs.Text.{lines}
use Rattle.text.specs.declared.fault.Fault.{Fault}
use Rattle.requests.specs.Numbers.{exactly}
use Rattle.requests.specs.declared.fault.Expected.{Expected}
use Rattle.requests.specs.declared.fault.Expected.TheVariants.{Command, Ring, Sides, Row}
use Rattle.requests.specs.declared.request.RingName.{RingName}
use Rattle.requests.specs.declared.request.RingName.TheVariants.{Words, Residues, Octets, OctetsByShifts}

-- a value read from the front of some lines with the lines after it, or the fault there
pub data Reading (A : Type 0) : Type 0 where
  read : A → Lines → Reading A
  fails : Fault Expected → Reading A

abbrev pub fault : ℕ → Expected → Fault Expected
fault n e = record { line = n; expected = e }

-- one reading after another
abbrev pub and_then : {A B : Type 0} → Reading A → (A → Lines → Reading B) → Reading B
and_then (read x ls) f = f x ls
and_then (fails g) f = fails g

-- what a line gives by its words
abbrev pub judged : {A : Type 0} → ℕ → Lines → Result A Expected → Reading A
judged n ls (Ok x) = read x ls
judged n ls (Err e) = fails (fault n e)

-- the next line, read by its words; where the text has ended, e was expected on the line that is missing
abbrev pub next_line : {A : Type 0} → Expected → (List (List ℕ) → Result A Expected) → Lines → Reading A
next_line e f (end n) = fails (fault n e)
next_line e f (line n ws ls) = judged n ls (f ws)

-- the ring of a name
abbrev pub ring_named : List ℕ → Option RingName
ring_named w =
    cond (bytes_eq w (codes "words")) (Some Words)
    (cond (bytes_eq w (codes "residues")) (Some Residues)
    (cond (bytes_eq w (codes "octets")) (Some Octets)
    (cond (bytes_eq w (codes "octets-by-shifts")) (Some OctetsByShifts)
    None)))

-- the ring that is the one word after `product`
abbrev pub one_ring : List (List ℕ) → Option RingName
one_ring [] = None
one_ring (w ∷ []) = ring_named w
one_ring (w ∷ v ∷ ws) = None

-- the ring of the line `product RING`
abbrev pub command : List (List ℕ) → Result RingName Expected
command [] = Err Command
command (w ∷ ws) = cond (bytes_eq w (codes "product")) (ok_or (one_ring ws) Ring) (Err Command)

-- two numbers
abbrev pub both : Option ℕ → Option ℕ → Option (ℕ × ℕ)
both None o = None
both (Some m) None = None
both (Some m) (Some n) = Some (m, n)

-- the two numbers of rows and of columns
abbrev pub sides : List (List ℕ) → Option (ℕ × ℕ)
sides [] = None
sides (r ∷ []) = None
sides (r ∷ c ∷ []) = both (number r) (number c)
sides (r ∷ c ∷ w ∷ ws) = None

abbrev pub read_command : Lines → Reading RingName
read_command = next_line Command command

abbrev pub read_sides : Lines → Reading (ℕ × ℕ)
read_sides = next_line Sides (λ ws. ok_or (sides ws) Sides)

abbrev pub read_row : ℕ → Lines → Reading (List ℕ)
read_row columns = next_line (Row columns) (λ ws. ok_or (exactly columns ws) (Row columns))

-- so many rows, one after another
unfoldable pub read_rows : ℕ → ℕ → Lines → Reading (List ℕ)
read_rows zero columns ls = read [] ls
read_rows (suc rows) columns ls =
    and_then (read_row columns ls) (λ first after.
    and_then (read_rows rows columns after) (λ others rest. read (first ++ others) rest))

-- rows of no columns have no lines
abbrev pub row_lines : ℕ → ℕ → ℕ
row_lines rows columns = cond (columns == 0) 0 rows

unfoldable pub read_matrix : Lines → Reading Matrix
read_matrix ls =
    and_then (read_sides ls) (λ size after.
    and_then (read_rows (row_lines size.0 size.1) size.1 after) (λ cells rest.
    read (record { rows = size.0; columns = size.1; cells = cells }) rest))

unfoldable pub read_request : Lines → Reading Asked
read_request ls =
    and_then (read_command ls) (λ ring after.
    and_then (read_matrix after) (λ left between.
    and_then (read_matrix between) (λ right rest. read (product ring left right) rest)))

-- nothing more is asked for: the text has ended, or what comes next is no request
abbrev pub Stops : Lines → Option (Fault Expected) → Type 0
Stops (end n) f = f ≡ None
Stops (line n ws ls) f = (g : Fault Expected) × (read_request (line n ws ls) ≡ fails g) × (f ≡ Some g)

-- the requests that lines ask for in their order, and the fault that ends them, if any
abbrev pub ReadsAs : Lines → List Asked → Option (Fault Expected) → Type 0
ReadsAs ls [] f = Stops ls f
ReadsAs ls (q ∷ qs) f = (rest : Lines) × (read_request ls ≡ read q rest) × ReadsAs rest qs f

-- the same of a text
abbrev pub Reads : List ℕ → List Asked → Option (Fault Expected) → Type 0
Reads text qs f = ReadsAs (meaningful 1 (lines text)) qs f
