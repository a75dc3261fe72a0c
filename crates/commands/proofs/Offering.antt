-- The coefficients of an equation, read one by one after those before.
use Rattle.std.proofs.Common.{◌≡◌, ℕ, false, List, [], ◌∷◌, ◌++◌, Some, None, codes, Option, sym, refl, ap}
use Rattle.std.proofs.lemmas.List.{append_assoc}
use Rattle.std.specs.Option.{option_map}
use Rattle.std.specs.Str.{bytes_eq}
use Rattle.text.specs.Numbers.{number}
use Rattle.commands.specs.Format.{with_first, equation}

-- the coefficients xs before those of an equation
abbrev pub following : List ℕ → Option (List ℕ × ℕ) → Option (List ℕ × ℕ)
following xs o = option_map (λ e. (xs ++ e.0, e.1)) o

moved : (xs : List ℕ) (n : ℕ) (o : Option (List ℕ × ℕ)) → following xs (with_first (Some n) o) ≡ following (xs ++ n ∷ []) o
moved xs n None = refl
moved xs n (Some e) = ap (λ l. Some (l, e.1)) (sym (append_assoc xs (n ∷ []) e.0))

pub one_more : (xs ys : List ℕ) (all : List (List ℕ)) (w : List ℕ) (ws : List (List ℕ)) (n : ℕ) → all ≡ w ∷ ws → bytes_eq w (codes "|") ≡ false → number w ≡ Some n → ys ≡ xs ++ n ∷ [] → following xs (equation all) ≡ following ys (equation ws)
one_more xs ys all w ws n e bar h pushed = rw (e, bar, h, pushed) (moved xs n (equation ws))
