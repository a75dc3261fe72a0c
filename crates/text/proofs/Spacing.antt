-- How a line of numbers is put together.
use Rattle.std.proofs.Common.{◌≡◌, ℕ, List, Result, OnOk, [], ◌∷◌, ◌++◌, map, decimal, sym, ap, ◌∙◌, append-nil}
use Rattle.std.specs.List.{flat_map}
use Rattle.std.proofs.lemmas.Result.{on_ok_weaker}
use Rattle.text.specs.Canonical.{spaced}
use Rattle.text.specs.Writing.{after_blank}

-- the words of a line: the first, and each other after a blank
pub spaced_others : (w : List ℕ) (ns : List ℕ) → spaced (w ∷ map decimal ns) ≡ w ++ flat_map after_blank ns
spaced_others w [] = sym (append-nil w)
spaced_others w (n ∷ ns) = ap (λ z. w ++ (32 ∷ z)) (spaced_others (decimal n) ns)

-- so a line with the first number and then the others, after what a text holds
pub numbers_pushed : {T E : Type 0} (r : Result T E) (before word after row : List ℕ) (n : ℕ) (ns : List ℕ)
    → word ≡ decimal n → row ≡ n ∷ ns
    → OnOk r (after ≡ before ++ (word ++ flat_map after_blank ns)) → OnOk r (after ≡ before ++ spaced (map decimal row))
numbers_pushed r before word after row n ns e f h =
    on_ok_weaker r
    (λ g.
    g
    ∙ ap (λ z. before ++ z)
    (ap (λ z. z ++ flat_map after_blank ns) e ∙ sym (spaced_others (decimal n) ns) ∙ ap (λ xs. spaced (map decimal xs)) (sym f)))
    h
