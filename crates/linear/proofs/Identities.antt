-- Identities of commutative rings, and rulesets that bring both sides of one to the same form.
use Rattle.std.proofs.Common.{◌≡◌, sym, ap, ◌∙◌}
use Rattle.linear.specs.Field.{RingOn}

module _ {K : Type 0} (F : RingOn K) where
  open F use {⊕-comm, ⊕-assoc, ⊕-zero, ⊕-neg, ⊗-comm, ⊗-assoc, ⊗-one, ⊗-dist}
  open F.ops use {𝟘, 𝟙, ◌⊕◌ as ◌+◌, ◌⊗◌ as ◌*◌, ⊖}

  infixl 65 ◌+◌
  infixl 70 ◌*◌
  pub +_comm : (a b : K) → a + b ≡ b + a
  +_comm a b = ⊕-comm a b

  pub +_assoc : (a b c : K) → (a + b) + c ≡ a + (b + c)
  +_assoc a b c = ⊕-assoc a b c

  pub +-zero : (a : K) → a + 𝟘 ≡ a
  +-zero a = ⊕-zero a

  pub *-comm : (a b : K) → a * b ≡ b * a
  *-comm a b = ⊗-comm a b

  pub *-assoc : (a b c : K) → (a * b) * c ≡ a * (b * c)
  *-assoc a b c = ⊗-assoc a b c

  pub *-one : (a : K) → a * 𝟙 ≡ a
  *-one a = ⊗-one a

  pub dist_l : (a b c : K) → a * (b + c) ≡ a * b + a * c
  dist_l a b c = ⊗-dist a b c

  pub +-left : (a b c : K) → a + (b + c) ≡ b + (a + c)
  +-left a b c = sym (⊕-assoc a b c) ∙ ap (λ x. x + c) (⊕-comm a b) ∙ ⊕-assoc b a c

  pub *-left : (a b c : K) → a * (b * c) ≡ b * (a * c)
  *-left a b c = sym (⊗-assoc a b c) ∙ ap (λ x. x * c) (⊗-comm a b) ∙ ⊗-assoc b a c

  pub zero-+ : (a : K) → 𝟘 + a ≡ a
  zero-+ a = ⊕-comm 𝟘 a ∙ ⊕-zero a

  pub one-* : (a : K) → 𝟙 * a ≡ a
  one-* a = ⊗-comm 𝟙 a ∙ ⊗-one a

  pub dist_r : (a b c : K) → (a + b) * c ≡ a * c + b * c
  dist_r a b c = simp (⊗-comm (a + b) c, ⊗-dist c a b, ⊗-comm c a, ⊗-comm c b)

  pub +-neg : (a : K) → a + ⊖ a ≡ 𝟘
  +-neg a = ⊕-neg a

  -- a term beside its opposite goes, wherever sorting has put the two
  pub +-neg-in : (a b : K) → a + (⊖ a + b) ≡ b
  +-neg-in a b = sym (⊕-assoc a (⊖ a) b) ∙ ap (λ x. x + b) (⊕-neg a) ∙ zero-+ b

  pub neg-+ : (a : K) → ⊖ a + a ≡ 𝟘
  neg-+ a = ⊕-comm (⊖ a) a ∙ ⊕-neg a

  pub neg-+-in : (a b : K) → ⊖ a + (a + b) ≡ b
  neg-+-in a b = sym (⊕-assoc (⊖ a) a b) ∙ ap (λ x. x + b) (neg-+ a) ∙ zero-+ b

  -- from a sum, its second part
  pub cancel : (a b c : K) → a + b ≡ a + c → b ≡ c
  cancel a b c e = sym (neg-+-in a b) ∙ ap (λ x. ⊖ a + x) e ∙ neg-+-in a c

  pub neg_unique : (a b : K) → a + b ≡ 𝟘 → b ≡ ⊖ a
  neg_unique a b e = cancel a b (⊖ a) (e ∙ sym (+-neg a))

  pub *-zero : (a : K) → a * 𝟘 ≡ 𝟘
  *-zero a = cancel (a * 𝟘) (a * 𝟘) 𝟘 (sym (⊗-dist a 𝟘 𝟘) ∙ ap (λ x. a * x) (⊕-zero 𝟘) ∙ sym (⊕-zero (a * 𝟘)))

  pub zero-* : (a : K) → 𝟘 * a ≡ 𝟘
  zero-* a = ⊗-comm 𝟘 a ∙ *-zero a

  pub neg_zero : ⊖ 𝟘 ≡ 𝟘
  neg_zero = sym (zero-+ (⊖ 𝟘)) ∙ +-neg 𝟘

  pub neg_neg : (a : K) → ⊖ (⊖ a) ≡ a
  neg_neg a = sym (neg_unique (⊖ a) a (neg-+ a))

  pub neg_sum : (a b : K) → ⊖ (a + b) ≡ ⊖ a + ⊖ b
  neg_sum a b = sym (neg_unique (a + b) (⊖ a + ⊖ b) (simp (⊕-assoc, +-left b, +-neg-in, ⊕-neg)))

  pub *-neg : (a b : K) → a * ⊖ b ≡ ⊖ (a * b)
  *-neg a b = neg_unique (a * b) (a * ⊖ b) (sym (⊗-dist a b (⊖ b)) ∙ ap (λ x. a * x) (+-neg b) ∙ *-zero a)

  pub neg-* : (a b : K) → ⊖ a * b ≡ ⊖ (a * b)
  neg-* a b = ⊗-comm (⊖ a) b ∙ *-neg b a ∙ ap ⊖ (⊗-comm b a)

  -- the same at a distance, as sorting leaves them
  pub far1 : (a b : K) → a + (b + ⊖ a) ≡ b
  far1 a b = +-left a b (⊖ a) ∙ ap (λ x. b + x) (+-neg a) ∙ +-zero b

  pub far1_in : (a b c : K) → a + (b + (⊖ a + c)) ≡ b + c
  far1_in a b c = +-left a b (⊖ a + c) ∙ ap (λ x. b + x) (+-neg-in a c)

  pub far2 : (a b c : K) → a + (b + (c + ⊖ a)) ≡ b + c
  far2 a b c = +-left a b (c + ⊖ a) ∙ ap (λ x. b + x) (far1 a c)

  pub far2_in : (a b c d : K) → a + (b + (c + (⊖ a + d))) ≡ b + (c + d)
  far2_in a b c d = +-left a b (c + (⊖ a + d)) ∙ ap (λ x. b + x) (far1_in a c d)

  pub far3 : (a b c d : K) → a + (b + (c + (d + ⊖ a))) ≡ b + (c + d)
  far3 a b c d = +-left a b (c + (d + ⊖ a)) ∙ ap (λ x. b + x) (far2 a c d)

  pub far3_in : (a b c d e : K) → a + (b + (c + (d + (⊖ a + e)))) ≡ b + (c + (d + e))
  far3_in a b c d e = +-left a b (c + (d + (⊖ a + e))) ∙ ap (λ x. b + x) (far2_in a c d e)

-- sums and products sorted; then all of a ring's normal form
pub ruleset sorts = (+_assoc, +_comm, +-left, *-assoc, *-comm, *-left)

pub ruleset units = (+-zero, zero-+, *-one, one-*, *-zero, zero-*, neg_zero, neg_neg, +-neg, +-neg-in, neg-+, neg-+-in, far1, far1_in, far2, far2_in, far3, far3_in)

pub ruleset rings = (units, dist_l, dist_r, neg_sum, *-neg, neg-*, sorts)

module _ {K : Type 0} (F : RingOn K) where
  open F.ops use {𝟘, ◌⊕◌, ⊖}

  -- from a difference of 0
  pub from_less : (x y : K) → x ⊕ ⊖ y ≡ 𝟘 → x ≡ y
  from_less x y e = cancel F (⊖ y) x y (+_comm F (⊖ y) x ∙ e ∙ sym (neg-+ F y))
