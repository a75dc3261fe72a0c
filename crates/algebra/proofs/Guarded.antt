-- Operations that obey the laws on the codes below n still do so when they are made to give 0 outside.
use Rattle.std.proofs.Common.{◌≡◌, ℕ, ◌<◌, ◌≤◌, true, false, cond, ◌&&◌, ltb, ◌⊎◌, sym, refl, ap, ◌∙◌, ap₂, inl, inr, arith, le-ltb, lt-ltb}
use Rattle.algebra.specs.Meaning.{Laws, RingLaws, meant}

-- the laws carry over to operations that are equal on the codes
module _ (n : ℕ) (s p S P : ℕ → ℕ → ℕ) (g G : ℕ → ℕ) (l : Laws n s p g)
    (sums : (a b : ℕ) → a < n → b < n → S a b ≡ s a b)
    (products : (a b : ℕ) → a < n → b < n → P a b ≡ p a b)
    (negatives : (a : ℕ) → a < n → G a ≡ g a) where
  pub carried : Laws n S P G
  carried = record {
    order_low = l.order_low;
    order_high = l.order_high;
    sum_code = λ a b h k. rw (sums a b h k) (l.sum_code a b h k);
    product_code = λ a b h k. rw (products a b h k) (l.product_code a b h k);
    negative_code = λ a h. rw (negatives a h) (l.negative_code a h);
    sum_comm = λ a b h k. sums a b h k ∙ l.sum_comm a b h k ∙ sym (sums b a k h);
    sum_assoc = λ a b c h k m.
        ap (λ x. S x c) (sums a b h k) ∙ sums (s a b) c (l.sum_code a b h k) m ∙ l.sum_assoc a b c h k m
        ∙ sym (ap (S a) (sums b c k m) ∙ sums a (s b c) h (l.sum_code b c k m));
    sum_zero = λ a h. sums 0 a (let t = l.order_low in omega arith) h ∙ l.sum_zero a h;
    sum_negative = λ a h. ap (S a) (negatives a h) ∙ sums a (g a) h (l.negative_code a h) ∙ l.sum_negative a h;
    product_comm = λ a b h k. products a b h k ∙ l.product_comm a b h k ∙ sym (products b a k h);
    product_assoc = λ a b c h k m.
        ap (λ x. P x c) (products a b h k) ∙ products (p a b) c (l.product_code a b h k) m ∙ l.product_assoc a b c h k m
        ∙ sym (ap (P a) (products b c k m) ∙ products a (p b c) h (l.product_code b c k m));
    product_one = λ a h. products 1 a (let t = l.order_low in omega arith) h ∙ l.product_one a h;
    product_sum = λ a b c h k m.
        ap (P a) (sums b c k m) ∙ products a (s b c) h (l.sum_code b c k m) ∙ l.product_sum a b c h k m
        ∙ sym
        (ap₂ S (products a b h k) (products a c h m)
        ∙ sums (p a b) (p a c) (l.product_code a b h k) (l.product_code a c h m));
  }

-- two arguments: the value where both are codes, else 0
pub inside : (n a b x : ℕ) → a < n → b < n → cond (ltb a n && ltb b n) x 0 ≡ x
inside n a b x h k = ap₂ (λ u v. cond (u && v) x 0) (lt-ltb a n h) (lt-ltb b n k)

and_false : (u : _) → (u && false) ≡ false
and_false true = refl
and_false false = refl

pub outside : (n a b x : ℕ) → (n ≤ a) ⊎ (n ≤ b) → cond (ltb a n && ltb b n) x 0 ≡ 0
outside n a b x (inl h) = ap (λ u. cond (u && ltb b n) x 0) (le-ltb a n h)
outside n a b x (inr h) =
    ap (λ v. cond (ltb a n && v) x 0) (le-ltb b n h) ∙ ap (λ u. cond u x 0) (and_false (ltb a n))

-- one argument
pub inside_one : (n a x : ℕ) → a < n → cond (ltb a n) x 0 ≡ x
inside_one n a x h = ap (λ u. cond u x 0) (lt-ltb a n h)

pub outside_one : (n a x : ℕ) → n ≤ a → cond (ltb a n) x 0 ≡ 0
outside_one n a x h = ap (λ u. cond u x 0) (le-ltb a n h)

pub guarded : (n : ℕ) (s p : ℕ → ℕ → ℕ) (g : ℕ → ℕ) → Laws n s p g → RingLaws (meant n s p g)
guarded n s p g l = record {
  laws = carried n s p (meant n s p g).sum (meant n s p g).product g (meant n s p g).negative l
      (λ a b. inside n a b (s a b)) (λ a b. inside n a b (p a b)) (λ a. inside_one n a (g a));
  outside = record {
    sum_outside = λ a b. outside n a b (s a b);
    product_outside = λ a b. outside n a b (p a b);
    negative_outside = λ a. outside_one n a (g a);
  };
}
