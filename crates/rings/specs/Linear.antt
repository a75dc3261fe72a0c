-- Maps that keep exclusive or: two of them that agree at the powers of 2 agree.
use Rattle.std.specs.Prelude.{◌≡◌, ℕ, zero, suc, ◌+◌, ◌-◌, ◌*◌, ◌^◌, ◌<◌, Bool, T, bit_xor, nat_eq, refl}
use Rattle.std.proofs.Common.{sym, ap, ap₂, ◌∙◌, add-zero, one-mul, pow-suc, arith, eqb→eq, lit<}
use Rattle.std.proofs.Math.Decide.{dec_lt}
use Rattle.std.specs.Int.Bits.{xor_assoc, xor_self, xor_zero_r, xor_shifted}
use Rattle.std.proofs.lemmas.Nat.{xor_comm, xor_block}
use Rattle.rings.specs.Computed.{below, at}

abbrev pub Linear : (ℕ → ℕ) → Type 0
Linear f = (a b : ℕ) → f (bit_xor a b) ≡ bit_xor (f a) (f b)

-- the middle two of four summands change places
pub swapped : (a b c d : ℕ) → bit_xor (bit_xor a b) (bit_xor c d) ≡ bit_xor (bit_xor a c) (bit_xor b d)
swapped a b c d =
    xor_assoc a b (bit_xor c d)
    ∙ ap (bit_xor a) (sym (xor_assoc b c d) ∙ ap (λ z. bit_xor z d) (xor_comm b c) ∙ xor_assoc c b d)
    ∙ sym (xor_assoc a c (bit_xor b d))

pub at_zero : (f : ℕ → ℕ) → Linear f → f 0 ≡ 0
at_zero f l =
    sym (xor_zero_r (f 0))
    ∙ ap (bit_xor (f 0)) (sym (xor_self (f 0)))
    ∙ sym (xor_assoc (f 0) (f 0) (f 0))
    ∙ ap (λ z. bit_xor z (f 0)) (sym (l 0 0))
    ∙ xor_self (f 0)

pub same_linear : Linear (λ x. x)
same_linear x y = refl

pub sum_linear : (f g : ℕ → ℕ) → Linear f → Linear g → Linear (λ x. bit_xor (f x) (g x))
sum_linear f g lf lg x y = ap₂ bit_xor (lf x y) (lg x y) ∙ swapped (f x) (f y) (g x) (g y)

pub twice_linear : Linear (λ x. x * 2)
twice_linear x y =
    sym
    (sym (ap₂ bit_xor (add-zero (x * 2)) (add-zero (y * 2)))
    ∙ xor_block 1 x y 0 0 (lit< tt) (lit< tt)
    ∙ add-zero (bit_xor x y * 2))

pub agree : (f g : ℕ → ℕ) → Linear f → Linear g
    → (n : ℕ) → ((i : ℕ) → i < n → f (2 ^ i) ≡ g (2 ^ i))
    → (a : ℕ) → a < 2 ^ n → f a ≡ g a
agree f g lf lg zero h a l =
    let e : a ≡ 0 = omega arith in
    ap f e ∙ at_zero f lf ∙ sym (ap g e ∙ at_zero g lg)
agree f g lf lg (suc n) h a l =
    let ih : (b : ℕ) → b < 2 ^ n → f b ≡ g b = agree f g lf lg n (λ i m. h i (omega arith)) in
    let two : 2 ^ suc n ≡ 2 ^ n * 2 = pow-suc 2 n in
    elim (dec_lt a (2 ^ n)) [
      | yes m ↦ ih a m
      | no m ↦
          let b : ℕ = a - 2 ^ n in
          let low : b < 2 ^ n = omega arith in
          let joined : bit_xor (2 ^ n) b ≡ 2 ^ n + b =
          ap (λ z. bit_xor z b) (sym (one-mul (2 ^ n))) ∙ xor_shifted 1 n b low ∙ ap (λ z. z + b) (one-mul (2 ^ n)) in
          let e : a ≡ bit_xor (2 ^ n) b = (let s : a ≡ 2 ^ n + b = omega arith in s) ∙ sym joined in
          ap f e ∙ lf (2 ^ n) b ∙ ap₂ bit_xor (h n (omega arith)) (ih b low) ∙ sym (ap g e ∙ lg (2 ^ n) b)
    ]

-- maps of two arguments, each of which they keep exclusive or in
pub record Bilinear (f : ℕ → ℕ → ℕ) : Type 0 where
  pub left : (b : ℕ) → Linear (λ a. f a b)
  pub right : (a : ℕ) → Linear (f a)

abbrev pub same_basis : (ℕ → ℕ → ℕ) → (ℕ → ℕ → ℕ) → Bool
same_basis f g = below (λ i. below (λ j. nat_eq (f (2 ^ i) (2 ^ j)) (g (2 ^ i) (2 ^ j))) 8) 8

pub agree₂ : (f g : ℕ → ℕ → ℕ) → Bilinear f → Bilinear g → T (same_basis f g)
    → (a b : ℕ) → a < 256 → b < 256 → f a b ≡ g a b
agree₂ f g lf lg t a b h k =
    let test : ℕ → ℕ → Bool = λ i j. nat_eq (f (2 ^ i) (2 ^ j)) (g (2 ^ i) (2 ^ j)) in
    agree (λ x. f x b) (λ x. g x b) (lf.left b) (lg.left b) 8
    (λ i m. agree (f (2 ^ i)) (g (2 ^ i)) (lf.right (2 ^ i)) (lg.right (2 ^ i)) 8
    (λ j l. eqb→eq (f (2 ^ i) (2 ^ j)) (g (2 ^ i) (2 ^ j)) (at (test i) 8 (at (λ i. below (test i) 8) 8 t i m) j l)) b k)
    a h
