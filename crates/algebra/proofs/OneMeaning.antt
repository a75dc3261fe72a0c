-- Rings of one meaning agree in every answer: the negative and the inverse are fixed by sum and product.
use Rattle.std.proofs.Common.{◌≡◌, ℕ, ◌<◌, ◌≤◌, ◌⊎◌, Some, None, Option, sym, refl, ap, ◌∙◌, inl, inr, arith}
use native.Mathlib.Decide.{dec_lt}
use Rattle.algebra.specs.Meaning.{Meaning, Laws, RingLaws, OneMeaning}
use Rattle.algebra.specs.Agreement.{InvertAlike}
use Rattle.algebra.specs.Inverse.{Inverts}

-- 0 has one summand for each code, and 1 one factor
module _ (n : ℕ) (s p : ℕ → ℕ → ℕ) (g : ℕ → ℕ) (l : Laws n s p g) (a x y : ℕ) (ha : a < n) (hx : x < n) (hy : y < n) where
  pub one_negative : s a x ≡ 0 → s a y ≡ 0 → x ≡ y
  one_negative ex ey =
      sym (l.sum_zero x hx)
      ∙ ap (λ z. s z x) (sym ey ∙ l.sum_comm a y ha hy)
      ∙ l.sum_assoc y a x hy ha hx
      ∙ ap (s y) ex
      ∙ l.sum_comm y 0 hy (let t = l.order_low in omega arith)
      ∙ l.sum_zero y hy

  pub one_inverse : p a x ≡ 1 → p a y ≡ 1 → x ≡ y
  one_inverse ex ey =
      sym (l.product_one x hx)
      ∙ ap (λ z. p z x) (sym ey ∙ l.product_comm a y ha hy)
      ∙ l.product_assoc y a x hy ha hx
      ∙ ap (p y) ex
      ∙ l.product_comm y 1 hy (let t = l.order_low in omega arith)
      ∙ l.product_one y hy

module _ (m k : Meaning) (lm : RingLaws m) (lk : RingLaws k) (one : OneMeaning m k) where
  below : (a : ℕ) → a < m.order → a < k.order
  below a h = let e = one.orders in omega arith

  above : (a : ℕ) → m.order ≤ a → k.order ≤ a
  above a h = let e = one.orders in omega arith

  -- two operations that agree on codes, and are 0 outside
  everywhere : (f h : ℕ → ℕ → ℕ)
      → ((a b : ℕ) → a < m.order → b < m.order → f a b ≡ h a b)
      → ((a b : ℕ) → (m.order ≤ a) ⊎ (m.order ≤ b) → f a b ≡ 0)
      → ((a b : ℕ) → (k.order ≤ a) ⊎ (k.order ≤ b) → h a b ≡ 0)
      → (a b : ℕ) → f a b ≡ h a b
  everywhere f h codes of oh a b = elim (dec_lt a m.order) [
    | yes i ↦ elim (dec_lt b m.order) [
      | yes j ↦ codes a b i j
      | no j ↦ of a b (inr (omega arith)) ∙ sym (oh a b (inr (above b (omega arith))))
    ]
    | no i ↦ of a b (inl (omega arith)) ∙ sym (oh a b (inl (above a (omega arith))))
  ]

  pub same_sum : (a b : ℕ) → m.sum a b ≡ k.sum a b
  same_sum = everywhere m.sum k.sum one.sums lm.outside.sum_outside lk.outside.sum_outside

  pub same_product : (a b : ℕ) → m.product a b ≡ k.product a b
  same_product =
      everywhere m.product k.product one.products lm.outside.product_outside lk.outside.product_outside

  pub same_negative : (a : ℕ) → m.negative a ≡ k.negative a
  same_negative a = elim (dec_lt a m.order) [
    | yes h ↦
        let code : k.negative a < m.order = (let e = one.orders in let c = lk.laws.negative_code a (below a h) in omega arith) in
        one_negative m.order m.sum m.product m.negative lm.laws a (m.negative a) (k.negative a) h
        (lm.laws.negative_code a h) code (lm.laws.sum_negative a h)
        (one.sums a (k.negative a) h code ∙ lk.laws.sum_negative a (below a h))
    | no h ↦ lm.outside.negative_outside a (omega arith) ∙ sym (lk.outside.negative_outside a (above a (omega arith)))
  ]

  -- what is answered as the inverse
  pub same_inverse : (a : ℕ) (r s : Option ℕ) → Inverts m a r → Inverts k a s → r ≡ s
  same_inverse a None None h i = cc
  same_inverse a None (Some c) h i =
      absurd (let e = one.orders in let z : a ≡ 0 = h (omega arith) in let w : ⊥ = omega arith in w)
  same_inverse a (Some b) None h i =
      absurd (let e = one.orders in let z : a ≡ 0 = i (omega arith) in let w : ⊥ = omega arith in w)
  same_inverse a (Some b) (Some c) h i =
      let e = one.orders in
      let code : c < m.order = omega arith in
      ap Some
      (one_inverse m.order m.sum m.product m.negative lm.laws a b c h.1 h.2 code h.3
      (one.products a c h.1 code ∙ i.3))

-- a meaning has one meaning with itself
pub itself : (m : Meaning) → OneMeaning m m
itself m = record { orders = refl; sums = λ a b h k. refl; products = λ a b h k. refl }

-- so each field answers one inverse only
pub inverse_once : (m : Meaning) (a : ℕ) (r b : Option ℕ) → RingLaws m → Inverts m a r → Inverts m a b → r ≡ b
inverse_once m a r b l hr hb = same_inverse m m l l (itself m) a r b hr hb

-- fields that invert alike answer one inverse
pub alike_at : (m k : Meaning) (a : ℕ) (r s : Option ℕ) → Inverts m a r → Inverts k a s → InvertAlike m k a → r ≡ s
alike_at m k a r s hr hs alike = alike r s hr hs
