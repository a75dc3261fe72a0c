-- Tables of the powers of 2, and of logarithms where these powers run through all codes but 0.
use Rattle.std.specs.Prelude.{◌≡◌, ℕ, zero, suc, ◌+◌, ◌-◌, ◌*◌, ◌<◌, Bool, cond, ◌&&◌, T, List, [], ◌∷◌, length, ◌==◌, bit_xor, nat_lt, slice_index, refl}
use Rattle.std.proofs.Common.{sym, ap, ◌∙◌, subst, add-zero, zero-add, arith, lt-ltb, le-ltb, eqb→eq, ltb→lt}
use Rattle.std.proofs.Math.Decide.{dec_lt}
use Rattle.rings.specs.Octets.{octet_product, power_of}
use Rattle.rings.specs.Tables.{twice, doubling, are_powers, inverts_from, are_logarithms}
use Rattle.rings.specs.Computed.{below, at, and_left, and_right}
use Rattle.rings.specs.Polynomials.{double}
use Rattle.rings.specs.OctetLaws.{double_low, double_high}
use Rattle.rings.specs.OctetFields.{Tests, two, power_code}

module _ (p : ℕ) where
  -- the powers of 2, by doubling
  abbrev pub doubles : ℕ → ℕ
  doubles zero = 1
  doubles (suc k) = double p (doubles k)

  -- the first place, counted from i, at which a stands among q, its double, .., of n
  abbrev place : ℕ → ℕ → ℕ → ℕ → ℕ
  place zero i q a = i
  place (suc n) i q a = cond (q == a) i (place n (suc i) (double p q) a)

  unfoldable pub logarithm_of : ℕ → ℕ
  logarithm_of a = place 255 0 1 a

  abbrev power_of_logarithm : ℕ → Bool
  power_of_logarithm k = nat_lt (logarithm_of (k + 1)) 255 && doubles (logarithm_of (k + 1)) == k + 1

-- each code but 0 is the power of its logarithm
abbrev pub Primitive : ℕ → Type 0
Primitive p = T (below (power_of_logarithm p) 255)

module _ {p : ℕ} (t : Tests p) where
  power_is : (k : ℕ) → doubles p k ≡ power_of p k
  power_is zero = refl
  power_is (suc k) = ap (double p) (power_is k) ∙ sym (two t (power_of p k) (power_code t k))

  twice_is : (a : ℕ) → a < 256 → twice p a ≡ octet_product p 2 a
  twice_is a h = elim (dec_lt a 128) [
    | yes k ↦ ap (λ b. cond b (a * 2) (bit_xor (a * 2) p)) (lt-ltb a 128 k) ∙ sym (two t a h ∙ double_low p a k)
    | no k ↦ ap (λ b. cond b (a * 2) (bit_xor (a * 2) p)) (le-ltb a 128 (omega arith)) ∙ sym (two t a h ∙ double_high p a (omega arith) h)
  ]

  next_power : (a i : ℕ) → a ≡ power_of p i → twice p a ≡ power_of p (suc i)
  next_power a i e = ap (twice p) e ∙ twice_is (power_of p i) (power_code t i)

  doubling_at : (a i : ℕ) → a ≡ power_of p i → (xs : List ℕ) → T (doubling p a xs)
      → (k : ℕ) → k < length xs → slice_index xs k ≡ power_of p (suc (i + k))
  doubling_at a i e [] u k h = absurd (let z : ⊥ = omega arith in z)
  doubling_at a i e (x ∷ xs) u zero h =
      eqb→eq x (twice p a) (and_left (x == twice p a) (doubling p x xs) u) ∙ next_power a i e ∙ ap (λ n. power_of p (suc n)) (sym (add-zero i))
  doubling_at a i e (x ∷ xs) u (suc k) h =
      doubling_at x (suc i)
      (eqb→eq x (twice p a) (and_left (x == twice p a) (doubling p x xs) u) ∙ next_power a i e)
      xs (and_right (x == twice p a) (doubling p x xs) u) k (omega arith)
      ∙ ap (λ n. power_of p (suc n)) (let z : suc i + k ≡ i + suc k = omega arith in z)

  -- a table of powers has the power k at place k
  pub power_at : (xs : List ℕ) → T (are_powers p xs) → (k : ℕ) → k < length xs → slice_index xs k ≡ power_of p k
  power_at [] u k h = absurd (let z : ⊥ = omega arith in z)
  power_at (x ∷ xs) u zero h = eqb→eq x 1 (and_left (x == 1) (doubling p x xs) u)
  power_at (x ∷ xs) u (suc k) h =
      doubling_at x 0 (eqb→eq x 1 (and_left (x == 1) (doubling p x xs) u)) xs (and_right (x == 1) (doubling p x xs) u) k (omega arith)
      ∙ ap (λ n. power_of p (suc n)) (zero-add k)

  inverts_at : (xs : List ℕ) (n i a : ℕ) → a ≡ power_of p i → T (inverts_from p n i a xs)
      → (k : ℕ) → k < n → slice_index xs (power_of p (i + k) - 1) ≡ i + k
  inverts_at xs zero i a e u k h = absurd (let z : ⊥ = omega arith in z)
  inverts_at xs (suc n) i a e u zero h =
      ap (λ c. slice_index xs (c - 1)) (ap (power_of p) (add-zero i) ∙ sym e)
      ∙ eqb→eq (slice_index xs (a - 1)) i (and_left (slice_index xs (a - 1) == i) (inverts_from p n (suc i) (twice p a) xs) u) ∙ sym (add-zero i)
  inverts_at xs (suc n) i a e u (suc k) h =
      let z : i + suc k ≡ suc i + k = omega arith in
      ap (λ c. slice_index xs (power_of p c - 1)) z
      ∙ inverts_at xs n (suc i) (twice p a) (next_power a i e)
      (and_right (slice_index xs (a - 1) == i) (inverts_from p n (suc i) (twice p a) xs) u) k (omega arith)
      ∙ sym z

  -- a table of logarithms has i for the power i
  pub logarithm_unique : (xs : List ℕ) → T (are_logarithms p xs) → (a i : ℕ) → i < 255 → power_of p i ≡ a → slice_index xs (a - 1) ≡ i
  logarithm_unique xs u a i h e =
      ap (λ c. slice_index xs (c - 1)) (sym e ∙ ap (power_of p) (sym (zero-add i))) ∙ inverts_at xs 255 0 1 refl u i h ∙ zero-add i

  module _ (l : Primitive p) (a : ℕ) (low : 0 < a) (high : a < 256) where
    successor : a - 1 + 1 ≡ a
    successor = omega arith

    tested : T (nat_lt (logarithm_of p a) 255 && doubles p (logarithm_of p a) == a)
    tested =
        subst (λ z. T (nat_lt (logarithm_of p z) 255 && doubles p (logarithm_of p z) == z)) successor
        (at (power_of_logarithm p) 255 l (a - 1) (omega arith))

    pub logarithm_below : logarithm_of p a < 255
    logarithm_below =
        ltb→lt (logarithm_of p a) 255
        (and_left (nat_lt (logarithm_of p a) 255) (doubles p (logarithm_of p a) == a) tested)

    pub logarithm_value : power_of p (logarithm_of p a) ≡ a
    logarithm_value =
        sym (power_is (logarithm_of p a))
        ∙ eqb→eq (doubles p (logarithm_of p a)) a
        (and_right (nat_lt (logarithm_of p a) 255) (doubles p (logarithm_of p a) == a) tested)

    -- so in a table of logarithms
    pub logarithm_at : (xs : List ℕ) → T (are_logarithms p xs) → slice_index xs (a - 1) ≡ logarithm_of p a
    logarithm_at xs u = logarithm_unique xs u a (logarithm_of p a) logarithm_below logarithm_value
