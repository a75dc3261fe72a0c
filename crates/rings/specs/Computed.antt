-- Tests at every number below a bound: computed once, then read at each place.
use Rattle.std.specs.Prelude.{ℕ, zero, suc, ◌<◌, Bool, true, false, ◌&&◌, T}
use Rattle.std.proofs.Common.{subst, sym, arith}
use Rattle.std.proofs.Math.Decide.{ℕ_discrete}

pub and_left : (a b : Bool) → T (a && b) → T a
and_left true b t = tt
and_left false b t = t

pub and_right : (a b : Bool) → T (a && b) → T b
and_right true b t = t
and_right false b t = absurd t

-- the test passes at 0 to n - 1
abbrev pub below : (ℕ → Bool) → ℕ → Bool
below f zero = true
below f (suc n) = f n && below f n

pub at : (f : ℕ → Bool) (n : ℕ) → T (below f n) → (k : ℕ) → k < n → T (f k)
at f zero t k h = absurd (let e : ⊥ = omega arith in e)
at f (suc n) t k h = elim (ℕ_discrete k n) [
  | yes e ↦ subst (λ m. T (f m)) (sym e) (and_left (f n) (below f n) t)
  | no d ↦ at f n (and_right (f n) (below f n) t) k (omega arith)
]
