-- Each request takes at least one line, and requests read one by one are those of the whole text.
use Rattle.std.proofs.Common.{◌≡◌, ℕ, zero, suc, ◌<◌, ◌≤◌, List, [], ◌++◌, Some, None, Ok, Err, Option, Result, sym, refl, ap, subst, arith}
use Rattle.std.proofs.lemmas.List.{append-nil}
use Rattle.text.specs.declared.fault.Fault.{Fault}
use Rattle.requests.specs.declared.fault.Expected.{Expected}
use Rattle.requests.specs.Asked.{Asked}
use Rattle.text.specs.Lines.{Lines, end, line}
use Rattle.text.proofs.Counting.{count}
use Rattle.requests.specs.Format.{Reading, read, fails, and_then, judged, next_line, read_rows, read_matrix, read_request, ReadsAs}
use Rattle.algebra.specs.Matrix.{Matrix}

-- the two steps of a reading
steps : {A B : Type 0} (r : Reading A) (f : A → Lines → Reading B) (y : B) (rest : Lines) → and_then r f ≡ read y rest → (x : A) × (ls : Lines) × (r ≡ read x ls) × (f x ls ≡ read y rest)
steps (read x ls) f y rest e = (x, ls, refl, e)
steps (fails g) f y rest e = absurd cc

judged_rest : {A : Type 0} (n : ℕ) (ls : Lines) (o : Result A Expected) (x : A) (rest : Lines) → judged n ls o ≡ read x rest → ls ≡ rest
judged_rest n ls (Ok y) x rest e = cc
judged_rest n ls (Err d) x rest e = absurd cc

next_shorter : {A : Type 0} (e : Expected) (f : List (List ℕ) → Result A Expected) (ls : Lines) (x : A) (rest : Lines) → next_line e f ls ≡ read x rest → count rest < count ls
next_shorter e f (end n) x rest h = absurd cc
next_shorter e f (line n ws ls) x rest h = omega (arith, ap count (judged_rest n ls (f ws) x rest h))

rows_shorter : (k columns : ℕ) (ls : Lines) (cells : List ℕ) (rest : Lines) → read_rows k columns ls ≡ read cells rest → count rest ≤ count ls
unfolding read_rows
rows_shorter zero columns ls cells rest e = let same : ls ≡ rest = cc in omega (arith, ap count same)
rows_shorter (suc k) columns ls cells rest e =
    let first = steps _ _ _ _ e in
    let others = steps _ _ _ _ first.3 in
    let one = next_shorter _ _ ls _ _ first.2 in
    let more = rows_shorter k columns _ _ _ others.2 in
    let same : others.1 ≡ rest = cc others.3 in
    omega (arith, ap count same)

matrix_shorter : (ls : Lines) (m : Matrix) (rest : Lines) → read_matrix ls ≡ read m rest → count rest < count ls
unfolding read_matrix
matrix_shorter ls m rest e =
    let size = steps _ _ _ _ e in
    let rows = steps _ _ _ _ size.3 in
    let one = next_shorter _ _ ls _ _ size.2 in
    let more = rows_shorter _ _ _ _ _ rows.2 in
    let same : rows.1 ≡ rest = cc rows.3 in
    omega (arith, ap count same)

pub request_shorter : (ls : Lines) (q : Asked) (rest : Lines) → read_request ls ≡ read q rest → count rest < count ls
unfolding read_request
request_shorter ls q rest e =
    let ring = steps _ _ _ _ e in
    let first = steps _ _ _ _ ring.3 in
    let second = steps _ _ _ _ first.3 in
    let one = next_shorter _ _ ls _ _ ring.2 in
    let two = matrix_shorter _ _ _ first.2 in
    let three = matrix_shorter _ _ _ second.2 in
    let same : second.1 ≡ rest = cc second.3 in
    omega (arith, ap count same)

-- the requests read so far, and then those of what is left, are those of the whole
abbrev pub SoFar : Lines → List Asked → Lines → Type 0
SoFar whole qs ls = (more : List Asked) (f : Option (Fault Expected)) → ReadsAs ls more f → ReadsAs whole (qs ++ more) f

pub no_more : (whole : Lines) (qs : List Asked) (ls : Lines) (f : Option (Fault Expected)) → SoFar whole qs ls → ReadsAs ls [] f → ReadsAs whole qs f
no_more whole qs ls f far h = subst (λ l. ReadsAs whole l f) (append-nil qs) (far [] f h)

-- the text ends, or no request follows
pub ends : (ls : Lines) (n : ℕ) → ls ≡ end n → ReadsAs ls [] None
ends ls n e = subst (λ l. ReadsAs l [] None) (sym e) refl

pub breaks_off : (ls : Lines) (n : ℕ) (ws : List (List ℕ)) (rest : Lines) (g : Fault Expected) → ls ≡ line n ws rest → read_request (line n ws rest) ≡ fails g → ReadsAs ls [] (Some g)
breaks_off ls n ws rest g e h = subst (λ l. ReadsAs l [] (Some g)) (sym e) (g, h, refl)
