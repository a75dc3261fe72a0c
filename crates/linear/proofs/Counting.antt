-- Lists that have each element once, by places, and the list of all codes.
use Rattle.std.proofs.Common.{◌≡◌, ℕ, zero, suc, ◌+◌, ◌<◌, ◌≤◌, ◌⊎◌, List, [], ◌∷◌, map, length, get_or, sym, refl, ap, subst, ap₂, inl, inr, arith}
use native.Mathlib.Decide.{ℕ_discrete}
use Rattle.std.specs.List.{range_with_len}
use Rattle.std.proofs.lemmas.List.FromFn.{length-map-range_with_len}
use Rattle.algebra.specs.Meaning.{Meaning}
use Rattle.linear.specs.Field.{FieldLaws}
use Rattle.linear.specs.Choices.{In, Apart}
use Rattle.linear.proofs.Choices.{map_in, apart_map}
use Rattle.linear.proofs.Codes.{Code, same_code, code, code_at, code_same}

module _ {A : Type 0} (d : A) where
  pub in_at : (xs : List A) (i : ℕ) → i < length xs → In (get_or xs i d) xs
  in_at [] i l = absurd (omega arith)
  in_at (x ∷ xs) zero l = inl refl
  in_at (x ∷ xs) (suc i) l = inr (in_at xs i (omega arith))

  pub at_in : (xs : List A) (a : A) → In a xs → (i : ℕ) × (i < length xs) × (get_or xs i d ≡ a)
  at_in [] a h = absurd h
  at_in (x ∷ xs) a (inl e) = (0, omega arith, sym e)
  at_in (x ∷ xs) a (inr h) = let t = at_in xs a h in (suc t.0, omega (arith, t.1), t.2)

  pub apart_at : (xs : List A) → Apart xs → (i j : ℕ) → i < length xs → j < length xs → get_or xs i d ≡ get_or xs j d → i ≡ j
  apart_at [] h i j l k e = absurd (omega arith)
  apart_at (x ∷ xs) h zero zero l k e = refl
  apart_at (x ∷ xs) h zero (suc j) l k e = absurd (h.0 (subst (λ y. In y xs) (sym e) (in_at xs j (omega arith))))
  apart_at (x ∷ xs) h (suc i) zero l k e = absurd (h.0 (subst (λ y. In y xs) e (in_at xs i (omega arith))))
  apart_at (x ∷ xs) h (suc i) (suc j) l k e = ap suc (apart_at xs h.1 i j (omega arith) (omega arith) e)

pub in_counting : (a n x : ℕ) → In x (range_with_len a n) → (a ≤ x) × (x < a + n)
in_counting a zero x h = absurd h
in_counting a (suc n) x (inl e) = (omega arith, omega arith)
in_counting a (suc n) x (inr h) = let t = in_counting (a + 1) n x h in (omega (arith, t.0), omega (arith, t.1))

pub counting_in : (a n x : ℕ) → a ≤ x → x < a + n → In x (range_with_len a n)
counting_in a zero x l k = absurd (omega arith)
counting_in a (suc n) x l k = go (ℕ_discrete x a) (λ l'. counting_in (a + 1) n x l' (omega arith))
  where
    go : Dec (x ≡ a) → (a + 1 ≤ x → In x (range_with_len (a + 1) n)) → (x ≡ a) ⊎ In x (range_with_len (a + 1) n)
    go (yes e) ih = inl e
    go (no ne) ih = inr (ih (omega arith))

pub apart_counting : (a n : ℕ) → Apart (range_with_len a n)
apart_counting a zero = tt
apart_counting a (suc n) = ((λ h. let t = (in_counting (a + 1) n a h).0 in omega arith), apart_counting (a + 1) n)

-- every code once
module _ (m : Meaning) (laws : FieldLaws m) where
  abbrev pub all_codes : List (Code m)
  all_codes = map (code m laws) (range_with_len 0 m.order)

  pub codes_many : length all_codes ≡ m.order
  codes_many = length-map-range_with_len (code m laws) 0 m.order

  pub codes_each : (a : Code m) → In a all_codes
  codes_each a = subst (λ x. In x all_codes) (code_at m laws a.0 a.1) (map_in (code m laws) (range_with_len 0 m.order) a.0 (counting_in 0 m.order a.0 (omega arith) (let t = a.1 in omega arith)))

  pub codes_apart : Apart all_codes
  codes_apart = apart_map (code m laws) (range_with_len 0 m.order)
      (λ x y i j e. code_same m laws x y (let t = (in_counting 0 m.order x i).1 in omega arith) (let t = (in_counting 0 m.order y j).1 in omega arith) e)
      (apart_counting 0 m.order)

  -- lists of codes as lists of numbers
  abbrev pub plain : List (Code m) → List ℕ
  plain s = map (λ c. c.0) s

  pub plain_same : (s t : List (Code m)) → plain s ≡ plain t → s ≡ t
  plain_same [] [] e = refl
  plain_same [] (y ∷ t) e = absurd (let z : ◌≡◌ {A = ℕ} 0 1 = cc in omega arith)
  plain_same (x ∷ s) [] e = absurd (let z : ◌≡◌ {A = ℕ} 0 1 = cc in omega arith)
  plain_same (x ∷ s) (y ∷ t) e = ap₂ ◌∷◌ (same_code m x y (cc)) (plain_same s t (cc))
