-- Numbers that pass a test, and sums over them.
use Rattle.std.proofs.Common.{◌≡◌, ℕ, zero, suc, ◌+◌, ◌-◌, ◌<◌, ◌≤◌, Bool, true, false, cond, eqb, ◌⊎◌, List, [], ◌∷◌, ◌++◌, length, get_or, sym, refl, ap, ◌∙◌, subst, ap₂, inl, inr, suc-add, arith, length-append, eq-eqb, eqb-true}
use Rattle.std.proofs.lemmas.List.{get_or_append_left, get_or_at, append-nil}
use native.Mathlib.Decide.{ℕ_discrete}
use Rattle.std.proofs.lemmas.Bool.{cond-true, cond-false, cases_Bool, true≢false}
use Rattle.algebra.specs.Among.{among, member}
use Rattle.linear.specs.Field.{FieldOn, ops}
use Rattle.algebra.specs.Operations.{sum}
use Rattle.linear.specs.Solutions.{frees}
use Rattle.linear.proofs.Identities.{zero-+}
use Rattle.algebra.proofs.Sums.{sum_cong}
use Rattle.linear.proofs.Sums.{sum_front}
use Rattle.linear.proofs.FreeColumns.{by_yes, by_no}

pub among_yes : (b : ℕ → Bool) (a k : ℕ) → b a ≡ true → among b a (suc k) ≡ a ∷ among b (suc a) k
among_yes b a k e = cond-true (b a) _ _ e

pub among_no : (b : ℕ → Bool) (a k : ℕ) → b a ≡ false → among b a (suc k) ≡ among b (suc a) k
among_no b a k e = cond-false (b a) _ _ e

pub among_same : (b c : ℕ → Bool) (a k : ℕ) → ((i : ℕ) → a ≤ i → i < a + k → b i ≡ c i) → among b a k ≡ among c a k
among_same b c a zero h = refl
among_same b c a (suc k) h =
    ap (λ x. cond x (a ∷ among b (suc a) k) (among b (suc a) k)) (h a (omega arith) (omega arith))
    ∙ ap (λ l. cond (c a) (a ∷ l) l) (among_same b c (suc a) k (λ i l m. h i (omega arith) (omega arith)))

abbrev Passing : (ℕ → Bool) → ℕ → ℕ → List ℕ → Type 0
Passing b a k s = (x : ℕ) → x < length s → (a ≤ get_or s x 0) × (get_or s x 0 < a + k) × (b (get_or s x 0) ≡ true)

abbrev Placed : ℕ → List ℕ → Type 0
Placed y s = (x : ℕ) × (x < length s) × (get_or s x 0 ≡ y)

abbrev Rising : List ℕ → Type 0
Rising s = (x y : ℕ) → x < y → y < length s → get_or s x 0 < get_or s y 0

-- each stands in the range and passes
pub among_each : (b : ℕ → Bool) (a k x : ℕ) → x < length (among b a k)
    → (a ≤ get_or (among b a k) x 0) × (get_or (among b a k) x 0 < a + k) × (b (get_or (among b a k) x 0) ≡ true)
among_each b a zero x l = absurd (omega arith)
among_each b a (suc k) x l = go (cases_Bool (b a)) (among_each b (suc a) k)
  where
    go : (b a ≡ true) ⊎ (b a ≡ false)
        → ((x : ℕ) → x < length (among b (suc a) k) → (suc a ≤ get_or (among b (suc a) k) x 0) × (get_or (among b (suc a) k) x 0 < suc a + k) × (b (get_or (among b (suc a) k) x 0) ≡ true))
        → (a ≤ get_or (among b a (suc k)) x 0) × (get_or (among b a (suc k)) x 0 < a + suc k) × (b (get_or (among b a (suc k)) x 0) ≡ true)
    go (inl e) ih = subst (Passing b a (suc k)) (sym (among_yes b a k e)) step x l
      where
        step : Passing b a (suc k) (a ∷ among b (suc a) k)
        step zero m = (omega arith, omega arith, e)
        step (suc y) m = let t = ih y (omega arith) in (omega (arith, t.0), omega (arith, t.1), t.2)
    go (inr e) ih = subst (Passing b a (suc k)) (sym (among_no b a k e)) (λ y m. let t = ih y m in (omega (arith, t.0), omega (arith, t.1), t.2)) x l

-- and each that stands in the range and passes is there
pub among_all : (b : ℕ → Bool) (a k y : ℕ) → a ≤ y → y < a + k → b y ≡ true → (x : ℕ) × (x < length (among b a k)) × (get_or (among b a k) x 0 ≡ y)
among_all b a zero y l m e = absurd (omega arith)
among_all b a (suc k) y l m e = go (cases_Bool (b a)) (ℕ_discrete y a) (λ l'. among_all b (suc a) k y l' (omega arith) e)
  where
    go : (b a ≡ true) ⊎ (b a ≡ false) → Dec (y ≡ a) → (suc a ≤ y → (x : ℕ) × (x < length (among b (suc a) k)) × (get_or (among b (suc a) k) x 0 ≡ y))
        → (x : ℕ) × (x < length (among b a (suc k))) × (get_or (among b a (suc k)) x 0 ≡ y)
    go (inl t) (yes s) ih = subst (Placed y) (sym (among_yes b a k t)) (0, omega arith, sym s)
    go (inl t) (no s) ih = let u = ih (omega arith) in subst (Placed y) (sym (among_yes b a k t)) (suc u.0, omega (arith, u.1), u.2)
    go (inr f) (yes s) ih = absurd (true≢false (sym e ∙ ap b s ∙ f))
    go (inr f) (no s) ih = subst (Placed y) (sym (among_no b a k f)) (ih (omega arith))

-- rising
pub among_rising : (b : ℕ → Bool) (a k x y : ℕ) → x < y → y < length (among b a k) → get_or (among b a k) x 0 < get_or (among b a k) y 0
among_rising b a zero x y l m = absurd (omega arith)
among_rising b a (suc k) x y l m = go (cases_Bool (b a)) (among_rising b (suc a) k)
  where
    go : (b a ≡ true) ⊎ (b a ≡ false) → ((x y : ℕ) → x < y → y < length (among b (suc a) k) → get_or (among b (suc a) k) x 0 < get_or (among b (suc a) k) y 0)
        → get_or (among b a (suc k)) x 0 < get_or (among b a (suc k)) y 0
    go (inl t) ih = subst Rising (sym (among_yes b a k t)) step x y l m
      where
        step : Rising (a ∷ among b (suc a) k)
        step x zero l m = absurd (omega arith)
        step zero (suc y) l m = let t = among_each b (suc a) k y (omega arith) in omega (arith, t.0)
        step (suc x) (suc y) l m = ih x y (omega arith) (omega arith)
    go (inr f) ih = subst Rising (sym (among_no b a k f)) ih x y l m

-- each number has one place
pub among_once : (b : ℕ → Bool) (a k x y : ℕ) → x < length (among b a k) → y < length (among b a k) → get_or (among b a k) x 0 ≡ get_or (among b a k) y 0 → x ≡ y
among_once b a k x y l m e = go (Rattle.std.proofs.lemmas.Bool.cases_order x y)
  where
    go : (x ≡ y) ⊎ ((x < y) ⊎ (y < x)) → x ≡ y
    go (inl s) = s
    go (inr (inl s)) = absurd (let t = among_rising b a k x y s m in omega arith)
    go (inr (inr s)) = absurd (let t = among_rising b a k y x s l in omega arith)

-- members of a list
pub member_at : (ps : List ℕ) (k : ℕ) → k < length ps → member (get_or ps k 0) ps ≡ true
member_at [] k l = absurd (omega arith)
member_at (p ∷ ps) zero l = cond-true (eqb p p) _ _ (eq-eqb p p refl)
member_at (p ∷ ps) (suc k) l = go (cases_Bool (eqb (get_or ps k 0) p)) (member_at ps k (omega arith))
  where
    go : (eqb (get_or ps k 0) p ≡ true) ⊎ (eqb (get_or ps k 0) p ≡ false) → member (get_or ps k 0) ps ≡ true → member (get_or ps k 0) (p ∷ ps) ≡ true
    go (inl t) ih = cond-true (eqb (get_or ps k 0) p) _ _ t
    go (inr f) ih = cond-false (eqb (get_or ps k 0) p) _ _ f ∙ ih

pub member_find : (x : ℕ) (ps : List ℕ) → member x ps ≡ true → (k : ℕ) × (k < length ps) × (get_or ps k 0 ≡ x)
member_find x [] e = absurd (true≢false (sym e))
member_find x (p ∷ ps) e = go (cases_Bool (eqb x p)) (member_find x ps)
  where
    go : (eqb x p ≡ true) ⊎ (eqb x p ≡ false) → (member x ps ≡ true → (k : ℕ) × (k < length ps) × (get_or ps k 0 ≡ x)) → (k : ℕ) × (k < suc (length ps)) × (get_or (p ∷ ps) k 0 ≡ x)
    go (inl t) ih = (0, omega arith, sym (eqb-true x p t))
    go (inr f) ih = let u = ih (sym (cond-false (eqb x p) _ _ f) ∙ e) in (suc u.0, omega (arith, u.1), u.2)

module _ {K : Type 0} (F : FieldOn K) where
  open F.ring.ops use {𝟘, ◌⊕◌}
  open F use {dec}

  -- a sum over a range is the sum over those that pass, where the others are 0
  pub sum_among : (b : ℕ → Bool) (g : ℕ → K) (a k : ℕ) → ((i : ℕ) → a ≤ i → i < a + k → b i ≡ false → g i ≡ 𝟘)
      → sum (ops F) k (λ i. g (a + i)) ≡ sum (ops F) (length (among b a k)) (λ x. g (get_or (among b a k) x 0))
  sum_among b g a zero h = refl
  sum_among b g a (suc k) h =
      sum_front F.ring k (λ i. g (a + i))
      ∙ ap₂ ◌⊕◌ (ap g (native.Mathlib.Nat.add-zero a)) (sum_cong (ops F) k _ (λ i. g (suc a + i)) (λ i l. ap g (let e : a + suc i ≡ suc a + i = omega arith in e)))
      ∙ go (cases_Bool (b a)) (sum_among b g (suc a) k (λ i l m. h i (omega arith) (omega arith)))
    where
      go : (b a ≡ true) ⊎ (b a ≡ false) → sum (ops F) k (λ i. g (suc a + i)) ≡ sum (ops F) (length (among b (suc a) k)) (λ x. g (get_or (among b (suc a) k) x 0))
          → g a ⊕ sum (ops F) k (λ i. g (suc a + i)) ≡ sum (ops F) (length (among b a (suc k))) (λ x. g (get_or (among b a (suc k)) x 0))
      go (inl t) ih =
          ap (λ y. g a ⊕ y) ih ∙ sym (sum_front F.ring (length (among b (suc a) k)) (λ x. g (get_or (a ∷ among b (suc a) k) x 0)))
          ∙ ap (λ s. sum (ops F) (length s) (λ x. g (get_or s x 0))) (sym (among_yes b a k t))
      go (inr f) ih =
          ap₂ ◌⊕◌ (h a (omega arith) (omega arith) f) ih ∙ zero-+ F.ring _ ∙ ap (λ s. sum (ops F) (length s) (λ x. g (get_or s x 0))) (sym (among_no b a k f))

  -- as many pass as columns are free
  pub among_count : (b : ℕ → Bool) (R : ℕ → ℕ → K) (a k : ℕ) → ((i : ℕ) → a ≤ i → i < a + k → (b i ≡ true → R i i ≡ 𝟘) × (R i i ≡ 𝟘 → b i ≡ true))
      → length (among b a k) ≡ frees F R a k
  among_count b R a zero h = refl
  among_count b R a (suc k) h = go (cases_Bool (b a)) (among_count b R (suc a) k (λ i l m. h i (omega arith) (omega arith)))
    where
      next : frees F R (suc a) k ≡ frees F R (a + 1) k
      next = ap (λ x. frees F R x k) (let e : suc a ≡ a + 1 = omega arith in e)

      go : (b a ≡ true) ⊎ (b a ≡ false) → length (among b (suc a) k) ≡ frees F R (suc a) k → length (among b a (suc k)) ≡ frees F R a (suc k)
      go (inl t) ih = ap length (among_yes b a k t) ∙ ap suc (ih ∙ next) ∙ sym (by_yes (dec (R a a) 𝟘) ((h a (omega arith) (omega arith)).0 t) _ _)
      go (inr f) ih = ap length (among_no b a k f) ∙ ih ∙ next ∙ sym (by_no (dec (R a a) 𝟘) (λ e. true≢false (sym ((h a (omega arith) (omega arith)).1 e) ∙ f)) _ _)

-- a range in two parts
pub among_split : (b : ℕ → Bool) (a k l : ℕ) → among b a (k + l) ≡ among b a k ++ among b (a + k) l
among_split b a zero l = ap₂ (λ x y. among b x y) (sym (native.Mathlib.Nat.add-zero a)) (native.Mathlib.Nat.zero-add l)
among_split b a (suc k) l =
    ap (among b a) (suc-add k l) ∙ go (cases_Bool (b a)) (among_split b (suc a) k l ∙ ap (λ x. among b (suc a) k ++ among b x l) (let e : suc a + k ≡ a + suc k = omega arith in e))
  where
    go : (b a ≡ true) ⊎ (b a ≡ false) → among b (suc a) (k + l) ≡ among b (suc a) k ++ among b (a + suc k) l → among b a (suc (k + l)) ≡ among b a (suc k) ++ among b (a + suc k) l
    go (inl t) ih = among_yes b a (k + l) t ∙ ap (λ s. a ∷ s) ih ∙ ap (λ s. s ++ among b (a + suc k) l) (sym (among_yes b a k t))
    go (inr f) ih = among_no b a (k + l) f ∙ ih ∙ ap (λ s. s ++ among b (a + suc k) l) (sym (among_no b a k f))

-- the first c numbers among n
module _ (b : ℕ → Bool) (n c : ℕ) (l : c < n) where
  split : among b 0 n ≡ among b 0 c ++ among b c (suc (n - (c + 1)))
  split =
      ap (among b 0) (let e : n ≡ c + suc (n - (c + 1)) = omega arith in e) ∙ among_split b 0 c (suc (n - (c + 1)))
      ∙ ap (λ x. among b 0 c ++ among b x (suc (n - (c + 1)))) (native.Mathlib.Nat.zero-add c)

  pub among_before : (x : ℕ) → x < length (among b 0 c) → get_or (among b 0 n) x 0 ≡ get_or (among b 0 c) x 0
  among_before x h = ap (λ s. get_or s x 0) split ∙ get_or_append_left (among b 0 c) _ 0 x h

  pub among_here : b c ≡ true → (length (among b 0 c) < length (among b 0 n)) × (get_or (among b 0 n) (length (among b 0 c)) 0 ≡ c)
  among_here t =
      let e : among b 0 n ≡ among b 0 c ++ (c ∷ among b (suc c) (n - (c + 1))) = split ∙ ap (λ s. among b 0 c ++ s) (among_yes b c (n - (c + 1)) t) in (
        (let z = ap length e ∙ length-append (among b 0 c) (c ∷ among b (suc c) (n - (c + 1))) in omega arith),
        ap (λ s. get_or s (length (among b 0 c)) 0) e ∙ get_or_at (among b 0 c) c (among b (suc c) (n - (c + 1))) 0 (length (among b 0 c)) refl,
      )

pub among_more_yes : (b : ℕ → Bool) (c : ℕ) → b c ≡ true → among b 0 (c + 1) ≡ among b 0 c ++ (c ∷ [])
among_more_yes b c t =
    among_split b 0 c 1 ∙ ap (λ x. among b 0 c ++ among b x 1) (native.Mathlib.Nat.zero-add c) ∙ ap (λ s. among b 0 c ++ s) (among_yes b c 0 t)

pub among_more_no : (b : ℕ → Bool) (c : ℕ) → b c ≡ false → among b 0 (c + 1) ≡ among b 0 c
among_more_no b c f =
    among_split b 0 c 1 ∙ ap (λ x. among b 0 c ++ among b x 1) (native.Mathlib.Nat.zero-add c) ∙ ap (λ s. among b 0 c ++ s) (among_no b c 0 f)
    ∙ append-nil (among b 0 c)
