-- Words that are whole numbers below 2^32, written in decimal digits.
use Rattle.std.specs.Prelude.{ℕ, ◌+◌, ◌-◌, ◌*◌, ◌^◌, cond, ◌&&◌, List, [], ◌∷◌, length, Some, None, Option, nat_lt}
use Rattle.std.specs.Str.{all_ascii_digits}

-- the value of digits that follow those of the number n; the digit 0 is the byte 48
abbrev pub value_after : ℕ → List ℕ → ℕ
value_after n [] = n
value_after n (b ∷ bs) = value_after (n * 10 + (b - 48)) bs

-- the value of digits
abbrev pub value : List ℕ → ℕ
value bs = value_after 0 bs

-- the number that a word writes: it has one digit or more, and nothing else, and its value is below 2^32
abbrev pub number : List ℕ → Option ℕ
number w = cond (nat_lt 0 (length w) && (all_ascii_digits w && nat_lt (value w) (2 ^ 32))) (Some (value w)) None
