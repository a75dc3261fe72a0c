-- The requests that a canonical text was written from are read back, and a text is read in one way only.
use Rattle.std.proofs.Common.{◌≡◌, ℕ, zero, suc, ◌*◌, ◌^◌, ◌<◌, ◌≤◌, true, false, eqb, List, [], ◌∷◌, ◌++◌, map, length, take, drop, Some, None, Ok, codes, decimal, Option, sym, refl, ap, ◌∙◌, subst, ⊎_elim, suc-mul, mul-zero, arith}
use Rattle.std.proofs.ByRecursion.{All-append, All-take, All-drop}
use Rattle.std.proofs.lemmas.List.{append_assoc, nil_from_length, take-append-drop, length-take-le, length-drop, length-map}
use Rattle.std.proofs.lemmas.Bool.{cases_Bool, eqb-true, eqb-false}
use Rattle.std.specs.Option.{ok_or}
use Rattle.std.specs.List.{flat_map, AllByRecursion}
use Rattle.text.specs.declared.fault.Fault.{Fault}
use Rattle.requests.specs.declared.fault.Expected.{Expected}
use Rattle.requests.specs.declared.fault.Expected.TheVariants.{Sides, Row}
use Rattle.requests.specs.declared.request.RingName.{RingName}
use Rattle.requests.specs.declared.request.RingName.TheVariants.{Words, Residues, Octets, OctetsByShifts}
use Rattle.text.specs.Lines.{Lines, end, line}
use Rattle.text.specs.Numbers.{number}
use Rattle.text.specs.Text.{blank}
use Rattle.text.proofs.Numerals.{plain_decimal, plain_decimals, number_back}
use Rattle.text.proofs.Spelling.{plain, PlainWord, PlainLine, numbered, page_back}
use Rattle.requests.specs.Numbers.{exactly}
use Rattle.requests.specs.Format.{read, fails, judged, command, both, read_row, read_rows, row_lines, read_matrix, read_request, Stops, ReadsAs, Reads}
use Rattle.algebra.specs.Matrix.{Matrix}
use Rattle.requests.specs.Asked.{Asked, product}
use Rattle.requests.specs.Written.{name_of, row_words, matrix_words, request_words, written, Proper, ProperRequest, OneReading, ReadBack}
use Rattle.requests.proofs.Following.{matrix_read, request_read}

abbrev Small : ℕ → Type 0
Small n = n < 2 ^ 32

exactly_back : (k : ℕ) (xs : List ℕ) → length xs ≡ k → AllByRecursion Small xs → exactly k (map decimal xs) ≡ Some xs
exactly_back zero [] e h = refl
exactly_back zero (x ∷ xs) e h = absurd (omega arith)
exactly_back (suc k) [] e h = absurd (omega arith)
exactly_back (suc k) (x ∷ xs) e h = rw (number_back x h.0, exactly_back k xs (omega arith) h.1) refl

row_back : (n k : ℕ) (xs : List ℕ) (rest : Lines) → length xs ≡ k → AllByRecursion Small xs → read_row k (line n (map decimal xs) rest) ≡ read xs rest
row_back n k xs rest e h = ap (λ o. judged n rest (ok_or o (Row k))) (exactly_back k xs e h)

-- rows, a matrix and a request, before any other lines
rows_back : (n k columns : ℕ) (cells : List ℕ) (page : List (List (List ℕ))) → length cells ≡ k * columns → AllByRecursion Small cells → (m : ℕ) × (read_rows k columns (numbered n (row_words k columns cells ++ page)) ≡ read cells (numbered m page))
unfolding read_rows
rows_back n zero columns cells page e h = (n, ap (λ l. read l (numbered n page)) (sym (nil_from_length cells (omega arith))))
rows_back n (suc k) columns cells page e h =
    let room : columns ≤ length cells = omega (arith, suc-mul k columns) in
    let long = length-take-le columns cells room in
    let left : length (drop columns cells) ≡ k * columns = length-drop columns cells ∙ omega (arith, suc-mul k columns) in
    let more = rows_back (suc n) k columns (drop columns cells) page left (All-drop _ columns cells h) in
    let rest = numbered (suc n) (row_words k columns (drop columns cells) ++ page) in
    let first = row_back n columns (take columns cells) rest long (All-take _ columns cells h) in
    (more.0, rw (first, more.1) (ap (λ l. read l (numbered more.0 page)) (take-append-drop columns cells)))

-- the rows that have lines hold all cells
line_cells : (rows columns : ℕ) (cells : List ℕ) → length cells ≡ rows * columns → length cells ≡ row_lines rows columns * columns
line_cells rows columns cells e =
    ⊎_elim
    (λ (f : eqb columns 0 ≡ true).
    let none : columns ≡ 0 = eqb-true columns 0 f in
    let all : rows * columns ≡ 0 = ap (λ c. rows * c) none ∙ mul-zero rows in
    rw f (omega arith))
    (λ (f : eqb columns 0 ≡ false). rw f e)
    (cases_Bool (eqb columns 0))

matrix_back : (n : ℕ) (a : Matrix) (page : List (List (List ℕ))) → Proper a → (m : ℕ) × (read_matrix (numbered n (matrix_words a ++ page)) ≡ read a (numbered m page))
matrix_back n a page h =
    let rest = numbered (suc n) (row_words (row_lines a.rows a.columns) a.columns a.cells ++ page) in
    let cells = rows_back (suc n) (row_lines a.rows a.columns) a.columns a.cells page (line_cells a.rows a.columns a.cells h.full) h.cells_fit in
    let size : both (number (decimal a.rows)) (number (decimal a.columns)) ≡ Some (a.rows, a.columns) = rw (number_back a.rows h.rows_fit, number_back a.columns h.columns_fit) refl in
    (cells.0, matrix_read _ a.rows a.columns rest _ a.cells _ (ap (λ o. judged n rest (ok_or o Sides)) size) refl cells.1)

commanded : (ring : RingName) → command (codes "product" ∷ name_of ring ∷ []) ≡ Ok ring
commanded Words = refl
commanded Residues = refl
commanded Octets = refl
commanded OctetsByShifts = refl

request_back : (n : ℕ) (q : Asked) (page : List (List (List ℕ))) → ProperRequest q → (m : ℕ) × (read_request (numbered n (request_words q ++ page)) ≡ read q (numbered m page))
request_back n (product ring left right) page h =
    let first = matrix_back (suc n) left (matrix_words right ++ page) h.0 in
    let second = matrix_back first.0 right page h.1 in
    let apart : numbered (suc n) ((matrix_words left ++ matrix_words right) ++ page) ≡ numbered (suc n) (matrix_words left ++ (matrix_words right ++ page)) = ap (numbered (suc n)) (append_assoc (matrix_words left) (matrix_words right) page) in
    (second.0, request_read n _ _ ring (commanded ring) left right _ _ (ap read_matrix apart ∙ first.1) second.1)

requests_back : (n : ℕ) (qs : List Asked) → AllByRecursion ProperRequest qs → ReadsAs (numbered n (flat_map request_words qs)) qs None
requests_back n [] h = refl
requests_back n (q ∷ qs) h =
    let here = request_back n q (flat_map request_words qs) h.0 in
    (numbered here.0 (flat_map request_words qs), here.1, requests_back here.0 qs h.1)

-- every line of a canonical text is plain
rows_plain : (k columns : ℕ) (cells : List ℕ) → 0 < columns → length cells ≡ k * columns → AllByRecursion Small cells → AllByRecursion PlainLine (row_words k columns cells)
rows_plain zero columns cells some e h = tt
rows_plain (suc k) columns cells some e h =
    let room : columns ≤ length cells = omega (arith, suc-mul k columns) in
    let long = length-map (take columns cells) decimal ∙ length-take-le columns cells room in
    let left : length (drop columns cells) ≡ k * columns = length-drop columns cells ∙ omega (arith, suc-mul k columns) in
    ((omega arith, plain_decimals _ (All-take _ columns cells h)), rows_plain k columns (drop columns cells) some left (All-drop _ columns cells h))

matrix_plain : (a : Matrix) → Proper a → AllByRecursion PlainLine (matrix_words a)
matrix_plain a h = (
  (omega arith, (plain_decimal a.rows h.rows_fit, (plain_decimal a.columns h.columns_fit, tt))),
  ⊎_elim
      (λ (f : eqb a.columns 0 ≡ true). rw f tt)
      (λ (f : eqb a.columns 0 ≡ false). rw f (rows_plain a.rows a.columns a.cells (omega (arith, eqb-false a.columns 0 f)) h.full h.cells_fit))
      (cases_Bool (eqb a.columns 0)),
)

named_plain : (ring : RingName) → PlainWord (name_of ring)
unfolding plain blank
named_plain Words = (omega arith, refl)
named_plain Residues = (omega arith, refl)
named_plain Octets = (omega arith, refl)
named_plain OctetsByShifts = (omega arith, refl)

command_plain : PlainWord (codes "product")
unfolding plain blank
command_plain = (omega arith, refl)

request_plain : (q : Asked) → ProperRequest q → AllByRecursion PlainLine (request_words q)
request_plain (product ring left right) h = (
  (omega arith, (command_plain, (named_plain ring, tt))),
  All-append _ (matrix_words left) (matrix_words right) (matrix_plain left h.0) (matrix_plain right h.1),
)

requests_plain : (qs : List Asked) → AllByRecursion ProperRequest qs → AllByRecursion PlainLine (flat_map request_words qs)
requests_plain [] h = tt
requests_plain (q ∷ qs) h = All-append _ (request_words q) (flat_map request_words qs) (request_plain q h.0) (requests_plain qs h.1)

written_reads : (qs : List Asked) → AllByRecursion ProperRequest qs → Reads (written qs) qs None
written_reads qs h = subst (λ ls. ReadsAs ls qs None) (sym (page_back 1 (flat_map request_words qs) (requests_plain qs h))) (requests_back 1 qs h)

-- lines that stop here give no request, and stop with one fault only
stops_no_request : (ls : Lines) (f : Option (Fault Expected)) (q : Asked) (rest : Lines) → Stops ls f → read_request ls ≡ read q rest → ⊥
unfolding read_request
stops_no_request (end n) f q rest h e = cc
stops_no_request (line n ws ls) f q rest h e = cc (sym h.1 ∙ e)

stops_same : (ls : Lines) (f g : Option (Fault Expected)) → Stops ls f → Stops ls g → f ≡ g
stops_same (end n) f g h i = h ∙ sym i
stops_same (line n ws ls) f g h i =
    let d : fails h.0 ≡ fails i.0 = sym h.1 ∙ i.1 in
    let same : h.0 ≡ i.0 = cc in
    h.2 ∙ (ap (λ x. Some x) same ∙ sym i.2)

reads_one_way : (ls : Lines) (qs ps : List Asked) (f g : Option (Fault Expected)) → ReadsAs ls qs f → ReadsAs ls ps g → (qs ≡ ps) × (f ≡ g)
reads_one_way ls [] [] f g h i = (refl, stops_same ls f g h i)
reads_one_way ls [] (p ∷ ps) f g h i = absurd (stops_no_request ls f p i.0 h i.1)
reads_one_way ls (q ∷ qs) [] f g h i = absurd (stops_no_request ls g q h.0 i h.1)
reads_one_way ls (q ∷ qs) (p ∷ ps) f g h i =
    let d : read q h.0 ≡ read p i.0 = sym h.1 ∙ i.1 in
    let same : q ≡ p = cc in
    let on : i.0 ≡ h.0 = cc in
    let more = reads_one_way h.0 qs ps f g h.2 (subst (λ l. ReadsAs l ps g) on i.2) in
    ((λ k. same k ∷ more.0 k), more.1)

-- what is read from a text is all that can be, and from a canonical text just what it was written from
pub one_reading : (text : List ℕ) (ps : List Asked) (f : Option (Fault Expected)) → Reads text ps f → OneReading text ps f
one_reading text ps f h qs g i = reads_one_way _ ps qs f g h i

pub read_back : (text : List ℕ) (ps : List Asked) (f : Option (Fault Expected)) → Reads text ps f → ReadBack text ps f
read_back text ps f h qs proper e = one_reading text ps f h qs None (subst (λ t. Reads t qs None) (sym e) (written_reads qs proper))
