-- The free columns as a filter of a range, and the first of them that moves an unknown.
use Rattle.std.proofs.Common.{◌≡◌, ℕ, zero, suc, ◌<◌, Bool, true, false, cond, not, ◌||◌, eqb, ltb, ◌≢◌, ◌∷◌, List, length, get_or, Some, None, Option, sym, refl, ap, ◌∙◌, add-one, arith}
use native.Mathlib.Decide.{dec_lt}
use Rattle.std.specs.List.{filter, position, position_or_len, range_with_len}
use Rattle.std.proofs.lemmas.Bool.{cond-true, lt-ltb}
use Rattle.std.proofs.lemmas.List.Quantifiers.{position-Some}
use Rattle.std.proofs.lemmas.List.Sums.{fails_before_first}
use Rattle.logs.proofs.Checking.{some_none}
use Rattle.algebra.specs.Among.{among}
use Rattle.recovery.specs.Cells.{cell}
use Rattle.recovery.specs.Columns.{free_in, FirstMoving}

pub among_filter : (b : ℕ → Bool) (a k : ℕ) → filter b (range_with_len a k) ≡ among b a k
among_filter b a zero = refl
among_filter b a (suc k) = ap (λ s. cond (b a) (a ∷ s) s) (rw add-one (among_filter b (suc a) k))

-- whether column c moves the unknown j
abbrev pub moves : List (List ℕ) → ℕ → ℕ → Bool
moves slots j c = eqb c j || not (eqb (cell slots j c) 0)

stays : (slots : List (List ℕ)) (j c : ℕ) → moves slots j c ≡ false → (c ≢ j) × (cell slots j c ≡ 0)
stays slots j c e = grind arith

moved : (slots : List (List ℕ)) (j c : ℕ) → moves slots j c ≡ true → (c ≢ j) × (cell slots j c ≡ 0) → ⊥
moved slots j c e v = grind arith

none_moves : (p : ℕ → Bool) (xs : List ℕ) → None ≡ position p xs → (x : ℕ) → x < length xs → p (get_or xs x 0) ≡ false
none_moves p xs e x l = fails_before_first p xs x 0 (go (dec_lt (position_or_len p xs) (length xs)))
  where
    go : Dec (position_or_len p xs < length xs) → x < position_or_len p xs
    go (yes b) = absurd (some_none (sym (e ∙ cond-true (ltb (position_or_len p xs) (length xs)) _ _ (lt-ltb _ _ b))))
    go (no b) = omega arith

pub first_moved : (slots : List (List ℕ)) (n j : ℕ) (r : Option ℕ) → r ≡ position (moves slots j) (free_in slots n) → FirstMoving slots n j r
first_moved slots n j None e = λ x l. stays slots j _ (none_moves (moves slots j) (free_in slots n) e x l)
first_moved slots n j (Some k) e =
    let u = position-Some (moves slots j) (free_in slots n) k 0 (sym e) in
    (u.0, moved slots j _ u.1, λ x l. stays slots j _ (u.2 x l))
