-- How a step changes the number of free columns.
use Rattle.std.proofs.Common.{◌≡◌, ℕ, zero, suc, ◌+◌, ◌<◌, ◌≤◌, sym, refl, ap, ◌∙◌, arith}
use native.Mathlib.Decide.{ℕ_discrete}
use Rattle.linear.specs.Field.{FieldOn}
use Rattle.linear.specs.Solutions.{by, frees}

pub by_yes : {A B : Type 0} (d : Dec A) → A → (x y : B) → by d x y ≡ x
by_yes (yes a) b x y = refl
by_yes (no a) b x y = absurd (a b)

pub by_no : {A B : Type 0} (d : Dec A) → ¬ A → (x y : B) → by d x y ≡ y
by_no (yes a) b x y = absurd (b a)
by_no (no a) b x y = refl

by_same : {A C B : Type 0} (d : Dec A) (e : Dec C) → (A → C) → (C → A) → (x y : B) → by d x y ≡ by e x y
by_same (yes a) e to back x y = sym (by_yes e (to a) x y)
by_same (no a) e to back x y = sym (by_no e (λ c. a (back c)) x y)

module _ {K : Type 0} (F : FieldOn K) (R S : ℕ → ℕ → K) where
  open F.ring.ops use {𝟘}
  open F use {dec}

  abbrev Alike : ℕ → Type 0
  Alike p = (R p p ≡ 𝟘 → S p p ≡ 𝟘) × (S p p ≡ 𝟘 → R p p ≡ 𝟘)

  pub frees_same : (a m : ℕ) → ((p : ℕ) → a ≤ p → p < a + m → Alike p) → frees F S a m ≡ frees F R a m
  frees_same a zero h = refl
  frees_same a (suc m) h =
      by_same (dec (S a a) 𝟘) (dec (R a a) 𝟘) (h a (omega arith) (omega arith)).1 (h a (omega arith) (omega arith)).0 (suc (frees F S (a + 1) m)) (frees F S (a + 1) m)
      ∙ ap (λ x. by (dec (R a a) 𝟘) (suc x) x) (frees_same (a + 1) m (λ p l k. h p (omega arith) (omega arith)))

  -- one free column fewer
  pub frees_step : (a m q : ℕ) → a ≤ q → q < a + m → R q q ≡ 𝟘 → ¬ (S q q ≡ 𝟘)
      → ((p : ℕ) → a ≤ p → p < a + m → ¬ (p ≡ q) → Alike p) → frees F S a m + 1 ≡ frees F R a m
  frees_step a zero q l k e ne h = absurd (omega arith)
  frees_step a (suc m) q l k e ne h =
      go (ℕ_discrete a q) (λ lq. frees_step (a + 1) m q lq (omega arith) e ne (λ p b d n. h p (omega arith) (omega arith) n))
    where
      go : Dec (a ≡ q) → (a + 1 ≤ q → frees F S (a + 1) m + 1 ≡ frees F R (a + 1) m) → frees F S a (suc m) + 1 ≡ frees F R a (suc m)
      go (yes s) ih =
          ap (λ x. x + 1) (by_no (dec (S a a) 𝟘) (λ z. ne (rw (sym s) z)) _ _)
          ∙ ap (λ x. x + 1) (frees_same (a + 1) m (λ p b d. h p (omega arith) (omega arith) (omega arith)))
          ∙ (let t : frees F R (a + 1) m + 1 ≡ suc (frees F R (a + 1) m) = omega arith in t)
          ∙ sym (by_yes (dec (R a a) 𝟘) (rw s e) _ _)
      go (no n) ih =
          ap (λ x. x + 1) (by_same (dec (S a a) 𝟘) (dec (R a a) 𝟘) (h a (omega arith) (omega arith) n).1 (h a (omega arith) (omega arith) n).0 (suc (frees F S (a + 1) m)) (frees F S (a + 1) m))
          ∙ out (dec (R a a) 𝟘) (frees F S (a + 1) m) (frees F R (a + 1) m) (ih (omega arith))
        where
          out : {A : Type 0} (d : Dec A) (x y : ℕ) → x + 1 ≡ y → by d (suc x) x + 1 ≡ by d (suc y) y
          out (yes a) x y t = omega arith
          out (no a) x y t = t

-- all columns are free
module _ {K : Type 0} (F : FieldOn K) where
  open F.ring.ops use {𝟘}
  open F use {dec}

  pub frees_none : (a m : ℕ) → frees F (λ p c. 𝟘) a m ≡ m
  frees_none a zero = refl
  frees_none a (suc m) = by_yes (dec 𝟘 𝟘) refl _ _ ∙ ap suc (frees_none (a + 1) m)
