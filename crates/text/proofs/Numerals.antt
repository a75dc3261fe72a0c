-- A decimal numeral is a word that stays one word, and is read back as its number.
use Rattle.std.proofs.Common.{◌≡◌, ℕ, ◌^◌, ◌<◌, true, List, [], ◌∷◌, map, Some, decimal, ap, ◌∙◌, arith, rules}
use Rattle.std.proofs.lemmas.Fmt.{decimal_nonempty, digits_decimal, digits_value-decimal}
use Rattle.std.proofs.lemmas.Str.Parse.{IsNumeralModel, numerals_by_fold}
use Rattle.std.specs.List.{AllByRecursion}
use Rattle.std.specs.Str.{all_ascii_digits}
use Rattle.text.specs.Numbers.{value_after, value, number}
use Rattle.text.proofs.Spelling.{PlainWord, digits_plain}
use Rattle.text.proofs.Valued.{is_number}

own : IsNumeralModel (λ ds. all_ascii_digits ds ≡ true) value
own = numerals_by_fold _ (search rules) value_after (search rules)

digits_here : (n : ℕ) → n < 2 ^ 32 → all_ascii_digits (decimal n) ≡ true
digits_here n h = digits_decimal own n (omega arith)

pub plain_decimal : (n : ℕ) → n < 2 ^ 32 → PlainWord (decimal n)
plain_decimal n h = (decimal_nonempty n (omega arith), digits_plain (decimal n) (digits_here n h))

pub plain_decimals : (xs : List ℕ) → AllByRecursion (λ n. n < 2 ^ 32) xs → AllByRecursion PlainWord (map decimal xs)
plain_decimals [] h = tt
plain_decimals (x ∷ xs) h = (plain_decimal x h.0, plain_decimals xs h.1)

pub number_back : (n : ℕ) → n < 2 ^ 32 → number (decimal n) ≡ Some n
number_back n h =
    let same = digits_value-decimal own n (omega arith) in
    is_number (decimal n) (decimal_nonempty n (omega arith)) (digits_here n h) (omega arith) ∙ ap (λ m. Some m) same
