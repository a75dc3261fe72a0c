-- The first line of a text and the first word of a line, by the place where each ends.
use Rattle.std.proofs.Common.{◌≡◌, ℕ, suc, ◌+◌, ◌<◌, ◌≤◌, true, false, cond, not, eqb, Bool, List, [], ◌∷◌, length, take, drop, Some, None, Option, sym, refl, ap, ◌∙◌, ⊎_elim, one-add, add-one, arith}
use Rattle.std.specs.List.{position_or_len, position}
use Rattle.std.proofs.lemmas.Bool.{cases_Bool}
use Rattle.std.proofs.lemmas.Bool.Decides.{nat_tests}
use Rattle.std.proofs.lemmas.List.{drop_all, take_all}
use Rattle.std.proofs.lemmas.List.Sums.{prefix_len-le-length}
use Rattle.std.specs.Option.{unwrap_or}
use Rattle.text.specs.Text.{blank, joined_to, lines, worded, words}

-- the place that a search found, and that it found none
pub found : {A : Type 0} (p : A → Bool) (xs : List A) (i : ℕ) → Some i ≡ position p xs → (i ≡ position_or_len p xs) × (i < length xs)
found p xs i e = (grind (arith, nat_tests), grind (arith, nat_tests))

pub not_found : {A : Type 0} (p : A → Bool) (xs : List A) → None ≡ position p xs → length xs ≤ position_or_len p xs
not_found p xs e = grind (arith, nat_tests)

abbrev pub feed : ℕ → Bool
feed b = eqb b 10

-- the first line of a text that is not empty ends before its first line feed
first_line : (b : ℕ) (bs : List ℕ) → lines (b ∷ bs) ≡ take (position_or_len feed (b ∷ bs)) (b ∷ bs) ∷ lines (drop (suc (position_or_len feed (b ∷ bs))) (b ∷ bs))
first_line b [] =
    elim (eqb b 10) as (λ t. cond t ([] ∷ []) ((b ∷ []) ∷ []) ≡ take (cond (not t) 1 0) (b ∷ []) ∷ lines (drop (cond (not t) 1 0) []))
    [ true ↦ refl | false ↦ refl ]
first_line b (c ∷ cs) =
    let n = position_or_len feed (c ∷ cs) in
    let on : joined_to b (lines (c ∷ cs)) ≡ take (1 + n) (b ∷ c ∷ cs) ∷ lines (drop (1 + n) (c ∷ cs)) = rw (one-add n, first_line c cs) refl in
    elim (eqb b 10) as (λ t. cond t ([] ∷ lines (c ∷ cs)) (joined_to b (lines (c ∷ cs))) ≡ take (cond (not t) (1 + n) 0) (b ∷ c ∷ cs) ∷ lines (drop (cond (not t) (1 + n) 0) (c ∷ cs)))
    [ true ↦ refl | false ↦ on ]

pub cut_line : (bs : List ℕ) (i : ℕ) (after : List ℕ) → Some i ≡ position feed bs → after ≡ drop (i + 1) bs → lines bs ≡ take i bs ∷ lines after
cut_line [] i after e f = absurd (omega (arith, (found feed [] i e).1))
cut_line (b ∷ bs) i after e f =
    let at : i ≡ position_or_len feed (b ∷ bs) = (found feed (b ∷ bs) i e).0 in
    rw (f, add-one i, at) (first_line b bs)

pub last_line : (bs : List ℕ) → 0 < length bs → None ≡ position feed bs → lines bs ≡ bs ∷ []
last_line [] some e = absurd (omega arith)
last_line (b ∷ bs) some e =
    let far = not_found feed (b ∷ bs) e in
    first_line b bs ∙ rw (take_all _ (b ∷ bs) far, drop_all (suc (position_or_len feed (b ∷ bs))) (b ∷ bs) (omega arith)) refl

-- a byte begins a word of its own, or goes before the word that follows
pub begins_word : (b : ℕ) (bs : List ℕ) → blank b ≡ false → worded bs ≡ false → words (b ∷ bs) ≡ (b ∷ []) ∷ words bs
begins_word b bs e f = rw (e, f) refl

pub joins_word : (b : ℕ) (bs : List ℕ) → blank b ≡ false → worded bs ≡ true → words (b ∷ bs) ≡ joined_to b (words bs)
joins_word b bs e f = rw (e, f) refl

-- a word that stands at the front ends before the first blank
front_word : (b : ℕ) (bs : List ℕ) → blank b ≡ false → words (b ∷ bs) ≡ take (suc (position_or_len blank bs)) (b ∷ bs) ∷ words (drop (position_or_len blank bs) bs)
front_word b [] e = rw e refl
front_word b (c ∷ cs) e =
    let n = position_or_len blank cs in
    let cut : ℕ → List (List ℕ) = λ i. take (suc i) (b ∷ c ∷ cs) ∷ words (drop i (c ∷ cs)) in
    ⊎_elim
    (λ (f : blank c ≡ true).
    let k : position_or_len blank (c ∷ cs) ≡ 0 = rw f refl in
    begins_word b (c ∷ cs) e (ap not f) ∙ ap cut (sym k))
    (λ (f : blank c ≡ false).
    let k : position_or_len blank (c ∷ cs) ≡ suc n = rw (f, one-add) refl in
    joins_word b (c ∷ cs) e (ap not f) ∙ (ap (joined_to b) (front_word c cs f) ∙ ap cut (sym k)))
    (cases_Bool (blank c))

abbrev pub inked : ℕ → Bool
inked b = not (blank b)

-- what follows the blanks at the front has the same words
words_from : (bs : List ℕ) → position_or_len inked bs < length bs → (rest : List ℕ) → rest ≡ drop (position_or_len inked bs) bs → words bs ≡ take (position_or_len blank rest) rest ∷ words (drop (position_or_len blank rest) rest)
words_from [] h rest e = absurd (omega arith)
words_from (b ∷ bs) h rest e =
    let n = position_or_len blank bs in
    let m = position_or_len inked bs in
    ⊎_elim
    (λ (f : blank b ≡ true).
    let k : position_or_len inked (b ∷ bs) ≡ suc m = rw (f, one-add) refl in
    let e' : rest ≡ drop m bs = e ∙ ap (λ i. drop i (b ∷ bs)) k in
    let w : words (b ∷ bs) ≡ words bs = rw f refl in
    w ∙ words_from bs (omega arith) rest e')
    (λ (f : blank b ≡ false).
    let k : position_or_len inked (b ∷ bs) ≡ 0 = rw f refl in
    let e' : rest ≡ b ∷ bs = e ∙ ap (λ i. drop i (b ∷ bs)) k in
    let j : position_or_len blank (b ∷ bs) ≡ suc n = rw (f, one-add) refl in
    rw e' (front_word b bs f ∙ ap (λ i. take i (b ∷ bs) ∷ words (drop i (b ∷ bs))) (sym j)))
    (cases_Bool (blank b))

pub next_word : (bs : List ℕ) (i : ℕ) (rest : List ℕ) → Some i ≡ position inked bs → rest ≡ drop i bs → words bs ≡ take (position_or_len blank rest) rest ∷ words (drop (position_or_len blank rest) rest)
next_word bs i rest e f =
    let at = found inked bs i e in
    words_from bs (omega arith) rest (f ∙ ap (λ j. drop j bs) at.0)

blanks_only : (bs : List ℕ) → length bs ≤ position_or_len inked bs → words bs ≡ []
blanks_only [] h = refl
blanks_only (b ∷ bs) h =
    ⊎_elim
    (λ (f : blank b ≡ true).
    let k : position_or_len inked (b ∷ bs) ≡ suc (position_or_len inked bs) = rw (f, one-add) refl in
    let w : words (b ∷ bs) ≡ words bs = rw f refl in
    w ∙ blanks_only bs (omega arith))
    (λ (f : blank b ≡ false).
    let k : position_or_len inked (b ∷ bs) ≡ 0 = rw f refl in
    absurd (omega arith))
    (cases_Bool (blank b))

pub no_word : (bs : List ℕ) → None ≡ position inked bs → words bs ≡ []
no_word bs e = blanks_only bs (not_found inked bs e)

-- where a search found nothing, what is cut off ends with the text
pub end_of : {A : Type 0} (p : A → Bool) (xs : List A) (r : Option ℕ) → r ≡ position p xs → unwrap_or r (length xs) ≡ position_or_len p xs
end_of p xs None e = omega (arith, not_found p xs e, prefix_len-le-length (λ x. not (p x)) xs)
end_of p xs (Some i) e = (found p xs i e).0
