-- The integers modulo n are a commutative ring, for every n from 2 to 2^32.
use Rattle.std.specs.Prelude.{◌≡◌, ℕ, ◌+◌, ◌-◌, ◌*◌, ◌/◌, ◌%◌, ◌^◌, ◌<◌, ◌≤◌}
use Rattle.std.proofs.Common.{sym, ap, ◌∙◌, add_comm, add_assoc, zero-add, mul_comm, mul_assoc, one-mul, mul-add, add-mul, mod-lt, mod-eq_of_lt, arith}
use Rattle.std.proofs.Math.Nat.{mod-add-mod, add-mod-mod, add-mod, mod_self, mod-add-div, add-mul-mod_self_left}
use Rattle.algebra.specs.Meaning.{Laws, RingLaws}
use Rattle.algebra.proofs.Guarded.{guarded}
use Rattle.rings.specs.Modulo.{modulo}

-- a factor may be replaced by its remainder
pub mul_mod_left : (n x y : ℕ) → (x % n * y) % n ≡ (x * y) % n
mul_mod_left n x y =
    sym (add-mul-mod_self_left (x % n * y) n (x / n * y))
    ∙ ap (λ z. (x % n * y + z) % n) (sym (mul_assoc n (x / n) y))
    ∙ ap (λ z. z % n) (sym (add-mul (x % n) (n * (x / n)) y) ∙ ap (λ z. z * y) (mod-add-div x n))

pub mul_mod_right : (n x y : ℕ) → (x * (y % n)) % n ≡ (x * y) % n
mul_mod_right n x y =
    ap (λ z. z % n) (mul_comm x (y % n)) ∙ mul_mod_left n y x ∙ ap (λ z. z % n) (mul_comm y x)

pub laws : (n : ℕ) → 2 ≤ n → n ≤ 2 ^ 32 → Laws n (λ a b. (a + b) % n) (λ a b. (a * b) % n) (λ a. (n - a) % n)
laws n low high =
    let some : 0 < n = omega arith in
    record {
      order_low = low;
      order_high = high;
      sum_code = λ a b h k. mod-lt (a + b) some;
      product_code = λ a b h k. mod-lt (a * b) some;
      negative_code = λ a h. mod-lt (n - a) some;
      sum_comm = λ a b h k. ap (λ z. z % n) (add_comm a b);
      sum_assoc = λ a b c h k m.
          mod-add-mod (a + b) n c ∙ ap (λ z. z % n) (add_assoc a b c) ∙ sym (add-mod-mod a (b + c) n);
      sum_zero = λ a h. ap (λ z. z % n) (zero-add a) ∙ mod-eq_of_lt h;
      sum_negative = λ a h.
          add-mod-mod a (n - a) n ∙ ap (λ z. z % n) (let e : a + (n - a) ≡ n = omega arith in e) ∙ mod_self n;
      product_comm = λ a b h k. ap (λ z. z % n) (mul_comm a b);
      product_assoc = λ a b c h k m.
          mul_mod_left n (a * b) c ∙ ap (λ z. z % n) (mul_assoc a b c) ∙ sym (mul_mod_right n a (b * c));
      product_one = λ a h. ap (λ z. z % n) (one-mul a) ∙ mod-eq_of_lt h;
      product_sum = λ a b c h k m.
          mul_mod_right n a (b + c) ∙ ap (λ z. z % n) (mul-add a b c) ∙ add-mod (a * b) (a * c) n;
    }

pub modulo_laws : (n : ℕ) → 2 ≤ n → n ≤ 2 ^ 32 → RingLaws (modulo n)
modulo_laws n low high =
    guarded n (λ a b. (a + b) % n) (λ a b. (a * b) % n) (λ a. (n - a) % n) (laws n low high)
