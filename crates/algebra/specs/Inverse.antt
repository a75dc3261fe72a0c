-- Inverses of codes: what makes a ring a field.
use Rattle.std.specs.Prelude.{◌≡◌, ℕ, ◌<◌, Some, None, Option}
use Rattle.algebra.specs.Meaning.{Meaning}

-- Some b: a is a code other than 0, and b is the code with a × b = 1. None: a is 0 or no code.
abbrev pub Inverts : Meaning → ℕ → Option ℕ → Type 0
Inverts m a None = (a < m.order → a ≡ 0)
Inverts m a (Some b) = (0 < a) × (a < m.order) × (b < m.order) × (m.product a b ≡ 1)

-- each code other than 0 has an inverse
abbrev pub HasInverses : Meaning → Type 0
HasInverses m = (a : ℕ) → 0 < a → a < m.order → (b : ℕ) × (b < m.order) × (m.product a b ≡ 1)
