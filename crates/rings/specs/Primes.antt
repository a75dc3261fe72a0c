-- Modulo a prime each residue but 0 has an inverse; and 65521 is prime.
use Rattle.std.specs.Prelude.{◌≡◌, ℕ, zero, suc, ◌+◌, ◌-◌, ◌*◌, ◌/◌, ◌%◌, ◌<◌, ◌≤◌, T, nat_lt}
use Rattle.std.proofs.Common.{sym, ap, ◌∙◌, subst, mul_comm, mul_assoc, mul-add, mod-lt, mod-eq_of_lt, div-le_self, sub-add_cancel, mul-one, arith, ltb→lt}
use Rattle.std.proofs.Math.Nat.{div-add-mod, add-mul-mod_self_left}
use Rattle.std.proofs.Math.Decide.{dec_lt}
use Rattle.algebra.specs.Inverse.{HasInverses}
use Rattle.algebra.proofs.Guarded.{inside}
use Rattle.rings.specs.Modulo.{modulo}
use Rattle.rings.specs.Computed.{below, at}
use Rattle.rings.specs.ModuloLaws.{mul_mod_left, mul_mod_right}

-- no number between 1 and n divides n
abbrev pub Prime : ℕ → Type 0
Prime n = (d : ℕ) → 1 < d → d < n → 0 < n % d

module _ (n r : ℕ) (low : 0 < r) (high : r < n) where
  -- minus the quotient of n by r, times r, is the remainder
  pub minus_quotient : (r * (n - n / r)) % n ≡ n % r
  minus_quotient =
      let rest : n % r < r = mod-lt n low in
      let q : n / r ≤ n = div-le_self n r in
      let all : n - n / r + n / r ≡ n = sub-add_cancel q in
      let parts : r * (n - n / r) + r * (n / r) ≡ r * n = sym (mul-add r (n - n / r) (n / r)) ∙ ap (λ z. r * z) all in
      let whole : r * (n / r) + n % r ≡ n = div-add-mod n r in
      let less : r - 1 + 1 ≡ r = omega arith in
      let row : n * (r - 1) + n * 1 ≡ n * r = sym (mul-add n (r - 1) 1) ∙ ap (λ z. n * z) less in
      let is : r * (n - n / r) ≡ n % r + n * (r - 1) = omega (arith, mul_comm r n, mul-one n) in
      ap (λ z. z % n) is ∙ add-mul-mod_self_left (n % r) n (r - 1) ∙ mod-eq_of_lt (omega arith)

  -- one turn of the loop: where c·a is r, c·(n - n / r)·a is n % r
  pub next : (a c : ℕ) → (c * a) % n ≡ r → ((c * (n - n / r)) % n * a) % n ≡ n % r
  next a c e =
      mul_mod_left n (c * (n - n / r)) a
      ∙ ap (λ z. z % n)
      (mul_assoc c (n - n / r) a ∙ ap (λ z. c * z) (mul_comm (n - n / r) a) ∙ sym (mul_assoc c a (n - n / r)))
      ∙ sym (mul_mod_left n (c * a) (n - n / r))
      ∙ ap (λ z. (z * (n - n / r)) % n) e
      ∙ minus_quotient

module _ (n : ℕ) (prime : Prime n) where
  abbrev Inverse : ℕ → Type 0
  Inverse a = (b : ℕ) × (b < n) × ((a * b) % n ≡ 1)

  inverse_up_to : (k r : ℕ) → r ≤ k → 0 < r → r < n → Inverse r
  inverse_up_to zero r h low high = absurd (let e : ⊥ = omega arith in e)
  inverse_up_to (suc k) r h low high = elim (dec_lt 1 r) [
    | yes m ↦
        let rest : n % r < r = mod-lt n low in
        let ih : Inverse (n % r) = inverse_up_to k (n % r) (omega arith) (prime r m high) (omega arith) in (
          ((n - n / r) * ih.0) % n,
          mod-lt ((n - n / r) * ih.0) (omega arith),
          mul_mod_right n r ((n - n / r) * ih.0)
              ∙ ap (λ z. z % n) (sym (mul_assoc r (n - n / r) ih.0))
              ∙ sym (mul_mod_left n (r * (n - n / r)) ih.0)
              ∙ ap (λ z. (z * ih.0) % n) (minus_quotient n r low high)
              ∙ ih.2,
        )
    | no m ↦
        (let one : r ≡ 1 = omega arith in
        (1, omega arith, ap (λ z. (z * 1) % n) one ∙ mod-eq_of_lt (omega arith)))
  ]

  pub has_inverses : HasInverses (modulo n)
  has_inverses a low high =
      let i : Inverse a = inverse_up_to a a (omega arith) low high in
      (i.0, i.1, inside n a i.0 ((a * i.0) % n) high i.1 ∙ i.2)

prime_test : T (below (λ d. nat_lt 0 (65521 % (d + 2))) 65519)
prime_test = tt

pub prime : Prime 65521
prime d low high =
    let e : d - 2 + 2 ≡ d = omega arith in
    subst (λ z. 0 < 65521 % z) e
    (ltb→lt 0 (65521 % (d - 2 + 2)) (at (λ d. nat_lt 0 (65521 % (d + 2))) 65519 prime_test (d - 2) (omega arith)))
