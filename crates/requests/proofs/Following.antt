-- One step of reading after another, and that each request takes at least a line.
use Rattle.std.proofs.Common.{◌≡◌, ℕ, suc, ◌+◌, ◌-◌, ◌<◌, ◌≤◌, List, ◌++◌, Ok, Err, sym, refl, ap, ◌∙◌, subst, arith}
use Rattle.std.proofs.lemmas.List.{append_assoc, append-nil}
use Rattle.text.specs.declared.fault.Fault.{Fault}
use Rattle.requests.specs.declared.fault.Expected.{Expected}
use Rattle.requests.specs.declared.request.RingName.{RingName}
use Rattle.text.specs.declared.stop.Stop.{Stop}
use Rattle.text.specs.declared.stop.Stop.TheVariants.{Malformed}
use Rattle.requests.specs.Giving.{preceded, Gives}
use Rattle.text.specs.Lines.{Lines, line}
use Rattle.requests.specs.Format.{Reading, read, fails, fault, and_then, judged, command, read_sides, read_row, read_rows, row_lines, read_matrix, read_request}
use Rattle.algebra.specs.Matrix.{Matrix}
use Rattle.requests.specs.Asked.{product}

-- a list before the numbers of a reading, in two parts
preceded_twice : (xs ys : List ℕ) (r : Reading (List ℕ)) → preceded xs (preceded ys r) ≡ preceded (xs ++ ys) r
preceded_twice xs ys (read zs ls) = ap (λ l. read l ls) (sym (append_assoc xs ys zs))
preceded_twice xs ys (fails g) = refl

-- one row more
row_then : (xs ys : List ℕ) (r : Reading (List ℕ)) (rest : Lines) (f : Lines → Reading (List ℕ)) → preceded xs r ≡ read ys rest → preceded xs (and_then r (λ first ls. preceded first (f ls))) ≡ preceded ys (f rest)
row_then xs ys (read zs ls) rest f e =
    let same : xs ++ zs ≡ ys = cc in
    let on : ls ≡ rest = cc in
    preceded_twice xs zs (f ls) ∙ (ap (λ l. preceded l (f ls)) same ∙ ap (λ l. preceded ys (f l)) on)
row_then xs ys (fails g) rest f e = absurd cc

row_fails : (xs : List ℕ) (r : Reading (List ℕ)) (g : Fault Expected) (f : Lines → Reading (List ℕ)) → preceded xs r ≡ fails g → preceded xs (and_then r (λ first ls. preceded first (f ls))) ≡ fails g
row_fails xs (read zs ls) g f e = absurd cc
row_fails xs (fails h) g f e = e

-- of so many rows, the row i
pub rows_on : (xs ys : List ℕ) (i rows columns : ℕ) (ls rest : Lines) → i < rows → preceded xs (read_row columns ls) ≡ read ys rest → preceded xs (read_rows (rows - i) columns ls) ≡ preceded ys (read_rows (rows - (i + 1)) columns rest)
unfolding read_rows
rows_on xs ys i rows columns ls rest some e =
    let one : rows - i ≡ suc (rows - (i + 1)) = omega arith in
    rw one (row_then xs ys (read_row columns ls) rest (read_rows (rows - (i + 1)) columns) e)

pub rows_fail : (xs : List ℕ) (i rows columns : ℕ) (ls : Lines) (g : Fault Expected) → i < rows → preceded xs (read_row columns ls) ≡ fails g → preceded xs (read_rows (rows - i) columns ls) ≡ fails g
unfolding read_rows
rows_fail xs i rows columns ls g some e =
    let one : rows - i ≡ suc (rows - (i + 1)) = omega arith in
    rw one (row_fails xs (read_row columns ls) g (read_rows (rows - (i + 1)) columns) e)

pub rows_end : (xs : List ℕ) (i rows columns : ℕ) (ls : Lines) → rows ≤ i → preceded xs (read_rows (rows - i) columns ls) ≡ read xs ls
unfolding read_rows
rows_end xs i rows columns ls none =
    let all : rows - i ≡ 0 = omega arith in
    rw all (ap (λ l. read l ls) (append-nil xs))

pub gives_fault : {A X : Type 0} (f : X → A) (r : Reading A) (s : Stop (Fault Expected)) (g : Fault Expected) (ls : Lines) → s ≡ Malformed g → Gives f r (Err s) ls → r ≡ fails g
gives_fault f r s g ls e h = subst (λ t. Gives f r (Err t) ls) e h

pub ruleset row_steps = (rows_on, rows_fail, rows_end)

-- what a step gives goes on to the next, and so does its fault
then_read : {A B : Type 0} (f : A → Lines → Reading B) {r : Reading A} (x : A) (ls : Lines) → r ≡ read x ls → and_then r f ≡ f x ls
then_read f x ls e = ap (λ r. and_then r f) e

then_fails : {A B : Type 0} (f : A → Lines → Reading B) {r : Reading A} (g : Fault Expected) → r ≡ fails g → and_then r f ≡ fails g
then_fails f g e = ap (λ r. and_then r f) e

-- a matrix by its sides and its rows
module _ (ls : Lines) where
  pub matrix_no_sides : (g : Fault Expected) → read_sides ls ≡ fails g → read_matrix ls ≡ fails g
  unfolding read_matrix
  matrix_no_sides g e = then_fails _ g e

  pub matrix_no_rows : (rows columns : ℕ) (rest : Lines) (k : ℕ) (g : Fault Expected) → read_sides ls ≡ read (rows, columns) rest → k ≡ row_lines rows columns → read_rows k columns rest ≡ fails g → read_matrix ls ≡ fails g
  unfolding read_matrix
  matrix_no_rows rows columns rest k g e f h = then_read _ (rows, columns) rest e ∙ then_fails _ g (ap (λ m. read_rows m columns rest) (sym f) ∙ h)

  pub matrix_read : (rows columns : ℕ) (rest : Lines) (k : ℕ) (cells : List ℕ) (last : Lines) → read_sides ls ≡ read (rows, columns) rest → k ≡ row_lines rows columns → read_rows k columns rest ≡ read cells last → read_matrix ls ≡ read (record { rows = rows; columns = columns; cells = cells }) last
  unfolding read_matrix
  matrix_read rows columns rest k cells last e f h = then_read _ (rows, columns) rest e ∙ then_read _ cells last (ap (λ m. read_rows m columns rest) (sym f) ∙ h)

pub ruleset matrix_steps = (matrix_no_sides, matrix_no_rows, matrix_read)

-- a request by its command and its matrices
module _ (n : ℕ) (ws : List (List ℕ)) (rest : Lines) where
  pub request_no_command : (e : Expected) → command ws ≡ Err e → read_request (line n ws rest) ≡ fails (fault n e)
  unfolding read_request
  request_no_command e h = then_fails _ (fault n e) (ap (judged n rest) h)

  module _ (ring : RingName) (h : command ws ≡ Ok ring) where
    pub request_no_left : (g : Fault Expected) → read_matrix rest ≡ fails g → read_request (line n ws rest) ≡ fails g
    unfolding read_request
    request_no_left g e = then_read _ ring rest (ap (judged n rest) h) ∙ then_fails _ g e

    pub request_no_right : (l : Matrix) (between : Lines) (g : Fault Expected) → read_matrix rest ≡ read l between → read_matrix between ≡ fails g → read_request (line n ws rest) ≡ fails g
    unfolding read_request
    request_no_right l between g e f = then_read _ ring rest (ap (judged n rest) h) ∙ (then_read _ l between e ∙ then_fails _ g f)

    pub request_read : (l r : Matrix) (between last : Lines) → read_matrix rest ≡ read l between → read_matrix between ≡ read r last → read_request (line n ws rest) ≡ read (product ring l r) last
    unfolding read_request
    request_read l r between last e f = then_read _ ring rest (ap (judged n rest) h) ∙ (then_read _ l between e ∙ then_read _ r last f)

pub ruleset request_steps = (request_no_command, request_no_left, request_no_right, request_read)
