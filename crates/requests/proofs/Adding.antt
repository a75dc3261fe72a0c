-- The numbers of a row, added one by one to those before.
use Rattle.std.proofs.Common.{◌≡◌, ℕ, suc, ◌+◌, ◌-◌, ◌<◌, List, [], ◌∷◌, ◌++◌, Some, None, Option, sym, refl, ap, ◌∙◌, arith}
use Rattle.std.proofs.lemmas.List.{append_assoc}
use Rattle.std.specs.Option.{option_map}
use Rattle.text.specs.Numbers.{number}
use Rattle.requests.specs.Numbers.{before, exactly}

-- the numbers xs and then those of a row of k more
abbrev pub Added : List ℕ → ℕ → List (List ℕ) → Option (List ℕ)
Added xs k ws = option_map (λ ns. xs ++ ns) (exactly k ws)

moved : (xs : List ℕ) (n : ℕ) (o : Option (List ℕ)) → option_map (λ ns. xs ++ ns) (before (Some n) o) ≡ option_map (λ ns. (xs ++ n ∷ []) ++ ns) o
moved xs n None = refl
moved xs n (Some ns) = ap (λ l. Some l) (sym (append_assoc xs (n ∷ []) ns))

-- of so many numbers, the number i
pub adds_one : (xs ys : List ℕ) (i columns : ℕ) (all : List (List ℕ)) (w : List ℕ) (ws : List (List ℕ)) (n : ℕ) → i < columns → all ≡ w ∷ ws → number w ≡ Some n → ys ≡ xs ++ n ∷ [] → Added xs (columns - i) all ≡ Added ys (columns - (i + 1)) ws
adds_one xs ys i columns all w ws n some f g h =
    let one : columns - i ≡ suc (columns - (i + 1)) = omega arith in
    let step = ap (λ o. option_map (λ ns. xs ++ ns) (before o (exactly (columns - (i + 1)) ws))) g ∙ moved xs n (exactly (columns - (i + 1)) ws) in
    rw (one, f, h) step

pub adds_none : (xs : List ℕ) (i columns : ℕ) (all : List (List ℕ)) → i < columns → all ≡ [] → Added xs (columns - i) all ≡ None
adds_none xs i columns all some f =
    let one : columns - i ≡ suc (columns - (i + 1)) = omega arith in
    rw (one, f) refl

pub adds_no_number : (xs : List ℕ) (i columns : ℕ) (all : List (List ℕ)) (w : List ℕ) (ws : List (List ℕ)) → i < columns → all ≡ w ∷ ws → number w ≡ None → Added xs (columns - i) all ≡ None
adds_no_number xs i columns all w ws some f g =
    let one : columns - i ≡ suc (columns - (i + 1)) = omega arith in
    rw (one, f) (ap (λ o. option_map (λ ns. xs ++ ns) (before o (exactly (columns - (i + 1)) ws))) g)

-- a row that is none adds nothing
pub no_row : (xs : List ℕ) (o : Option (List ℕ)) → option_map (λ ns. xs ++ ns) o ≡ None → o ≡ None
no_row xs None e = refl
no_row xs (Some ns) e = absurd cc

pub ruleset row_steps = (adds_one, adds_none, adds_no_number, no_row)
