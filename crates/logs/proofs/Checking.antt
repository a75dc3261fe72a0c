-- When an offer is refused, and what an offer that is not refused brings.
use Rattle.std.proofs.Common.{◌≡◌, ℕ, zero, suc, ◌+◌, ◌<◌, Bool, true, false, cond, eqb, ltb, List, [], ◌∷◌, ◌++◌, length, get_or, Some, None, Ok, Err, Option, sym, refl, ap, ◌∙◌, subst, arith, length-append, ltb-true, eq-eqb, eqb-true}
use Rattle.std.proofs.lemmas.List.{get_or_append_left, get_or_push}
use Rattle.std.proofs.lemmas.Bool.{cond-true}
use Rattle.algebra.specs.Meaning.{Meaning}
use Rattle.logs.specs.declared.refusal.Refusal.TheVariants as refusal
use Rattle.algebra.specs.Outside.{first_outside}
use Rattle.algebra.specs.Vectors.{Sound}
use Rattle.logs.specs.Offers.{Offer, equation, unless_outside, checked}

pub some_none : {A : Type 0} {a : A} → Some a ≡ None → ⊥
some_none e = grind arith

pub err_ok : {A E : Type 0} {a : A} {e : E} → Err e ≡ Ok a → ⊥
err_ok e = grind arith

-- the first number that is no code, in a list that goes on
module _ (order : ℕ) where
  outside_on : (k : ℕ) (xs ys : List ℕ) → first_outside order k xs ≡ None → first_outside order k (xs ++ ys) ≡ first_outside order (k + length xs) ys
  outside_on k [] ys e = ap (λ i. first_outside order i ys) (omega arith)
  outside_on k (x ∷ xs) ys e = go (ltb x order) e (outside_on (k + 1) xs ys)
    where
      go : (b : Bool) → cond b (first_outside order (k + 1) xs) (Some k) ≡ None
          → (first_outside order (k + 1) xs ≡ None → first_outside order (k + 1) (xs ++ ys) ≡ first_outside order (k + 1 + length xs) ys)
          → cond b (first_outside order (k + 1) (xs ++ ys)) (Some k) ≡ first_outside order (k + length (x ∷ xs)) ys
      go true e ih = ih e ∙ ap (λ i. first_outside order i ys) (omega arith)
      go false e ih = absurd (some_none e)

  outside_before : (k p : ℕ) (xs ys : List ℕ) → first_outside order k xs ≡ Some p → first_outside order k (xs ++ ys) ≡ Some p
  outside_before k p [] ys e = absurd (some_none (sym e))
  outside_before k p (x ∷ xs) ys e = go (ltb x order) e (outside_before (k + 1) p xs ys)
    where
      go : (b : Bool) → cond b (first_outside order (k + 1) xs) (Some k) ≡ Some p
          → (first_outside order (k + 1) xs ≡ Some p → first_outside order (k + 1) (xs ++ ys) ≡ Some p)
          → cond b (first_outside order (k + 1) (xs ++ ys)) (Some k) ≡ Some p
      go true e ih = ih e
      go false e ih = e

  -- where there is none, all are codes
  pub outside_none : (k : ℕ) (xs : List ℕ) → first_outside order k xs ≡ None → (i : ℕ) → i < length xs → get_or xs i 0 < order
  outside_none k [] e i l = absurd (omega arith)
  outside_none k (x ∷ xs) e i l = go (ltb x order) refl e (outside_none (k + 1) xs) i l
    where
      go : (b : Bool) → ltb x order ≡ b → cond b (first_outside order (k + 1) xs) (Some k) ≡ None
          → (first_outside order (k + 1) xs ≡ None → (i : ℕ) → i < length xs → get_or xs i 0 < order)
          → (i : ℕ) → i < length (x ∷ xs) → get_or (x ∷ xs) i 0 < order
      go true t e ih zero l = ltb-true x order t
      go true t e ih (suc i) l = ih e i (omega arith)
      go false t e ih i l = absurd (some_none e)

  pub outside_value : (value : ℕ) (xs : List ℕ) → first_outside order 0 xs ≡ None
      → first_outside order 0 (xs ++ (value ∷ [])) ≡ cond (ltb value order) None (Some (length xs))
  outside_value value xs e = outside_on 0 xs (value ∷ []) e ∙ ap (λ i. first_outside order i (value ∷ [])) (omega arith)

  pub outside_front : (value p : ℕ) (xs : List ℕ) → first_outside order 0 xs ≡ Some p → first_outside order 0 (xs ++ (value ∷ [])) ≡ Some p
  outside_front value p xs = outside_before 0 p xs (value ∷ [])

-- where both lengths are right, the first number that is no code decides
module _ (order n : ℕ) (o : Offer) where
  pub checked_codes : length o.coefficients ≡ n → length o.weights ≡ n
      → (x : Option ℕ) → x ≡ first_outside order 0 (o.coefficients ++ (o.value ∷ [])) → checked order n o ≡ unless_outside x
  checked_codes e h x k =
      cond-true (eqb (length o.coefficients) n) _ _ (eq-eqb (length o.coefficients) n e)
      ∙ cond-true (eqb (length o.weights) n) _ _ (eq-eqb (length o.weights) n h) ∙ ap unless_outside (sym k)

unless_none : (x : Option ℕ) → unless_outside x ≡ Ok tt → x ≡ None
unless_none None e = refl
unless_none (Some p) e = absurd (err_ok e)

-- an offer that passes is sound, and its slice for weights is as long as there are unknowns
pub checked_sound : (m : Meaning) (n : ℕ) (o : Offer) → checked m.order n o ≡ Ok tt → Sound m n (equation o) × (length o.weights ≡ n)
checked_sound m n o = go (eqb (length o.coefficients) n) (eqb (length o.weights) n) refl refl
  where
    all : List ℕ
    all = o.coefficients ++ (o.value ∷ [])

    sound : length o.coefficients ≡ n → ((i : ℕ) → i < length all → get_or all i 0 < m.order) → Sound m n (equation o)
    sound long codes = record {
      coefficients = record {
        long = long;
        codes = λ i l. subst (λ x. x < m.order) (get_or_append_left o.coefficients (o.value ∷ []) 0 i l) (codes i (rw more (omega arith)));
      };
      value =
          subst (λ x. x < m.order) (get_or_push o.coefficients o.value 0 (length o.coefficients) refl)
          (codes (length o.coefficients) (rw more (omega arith)));
    }
      where
        more : length all ≡ length o.coefficients + 1
        more = length-append o.coefficients (o.value ∷ [])

    go : (b c : Bool) → eqb (length o.coefficients) n ≡ b → eqb (length o.weights) n ≡ c
        → cond b (cond c (unless_outside (first_outside m.order 0 all)) (Err refusal.Length)) (Err refusal.Coefficients) ≡ Ok tt
        → Sound m n (equation o) × (length o.weights ≡ n)
    go true true t u e = (
      sound (eqb-true (length o.coefficients) n t) (outside_none m.order 0 all (unless_none _ e)),
      eqb-true (length o.weights) n u,
    )
    go true false t u e = absurd (err_ok e)
    go false c t u e = absurd (err_ok e)
