-- When a word is a number, and what one more digit does to its value.
use Rattle.std.proofs.Common.{◌≡◌, ℕ, ◌+◌, ◌-◌, ◌*◌, ◌^◌, ◌<◌, ◌≤◌, true, false, cond, ◌&&◌, ltb, List, [], ◌∷◌, length, get_or, drop, Some, None, refl, ap, arith}
use Rattle.std.specs.Str.{all_ascii_digits}
use Rattle.std.proofs.lemmas.List.{at_drop_more}
use Rattle.std.proofs.lemmas.Bool.{lt-ltb, le-ltb, and_right}
use Rattle.std.proofs.lemmas.Bool.Decides.{nat_tests}
use Rattle.text.specs.Numbers.{value_after, value, number}

value_grows : (n : ℕ) (bs : List ℕ) → n ≤ value_after n bs
value_grows n [] = omega arith
value_grows n (b ∷ bs) = omega (arith, value_grows (n * 10 + (b - 48)) bs)

not_a_number : (w : List ℕ) → (ltb 0 (length w) && (all_ascii_digits w && ltb (value w) (2 ^ 32))) ≡ false → number w ≡ None
not_a_number w e = ap (λ t. cond t (Some (value w)) None) e

too_large : (w : List ℕ) → 2 ^ 32 ≤ value w → number w ≡ None
too_large w h = not_a_number w (and_right (ltb 0 (length w)) _ (and_right (all_ascii_digits w) _ (le-ltb _ _ h)))

pub is_number : (w : List ℕ) → 0 < length w → all_ascii_digits w ≡ true → value w < 2 ^ 32 → number w ≡ Some (value w)
is_number w some digits small = rw (lt-ltb _ _ some, digits, lt-ltb _ _ small) refl

pub number_small : (w : List ℕ) (n : ℕ) → number w ≡ Some n → n < 2 ^ 32
number_small w n e = grind (arith, nat_tests)

-- a word whose value passes the limit is no number
pub stops_at_value : (w : List ℕ) (n i : ℕ) → i < length w → 2 ^ 32 ≤ n * 10 + (get_or w i 0 - 48) → value_after n (drop i w) ≡ value w → number w ≡ None
stops_at_value w n i h large same =
    let on = at_drop_more (value_after n) w i 0 h in
    too_large w (omega (arith, value_grows (n * 10 + (get_or w i 0 - 48)) (drop (i + 1) w)))
