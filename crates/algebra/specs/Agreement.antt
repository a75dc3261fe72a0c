-- Rings that answer alike.
use Rattle.std.specs.Prelude.{◌≡◌, ℕ, Option}
use Rattle.algebra.specs.Inverse.{Inverts}
use Rattle.algebra.specs.Meaning.{Meaning}

-- the order, and what the functions of a ring answer at two codes
pub record AnswerAlike (m k : Meaning) (a b : ℕ) : Type 0 where
  pub orders : m.order ≡ k.order
  pub sums : m.sum a b ≡ k.sum a b
  pub products : m.product a b ≡ k.product a b
  pub negatives : m.negative a ≡ k.negative a

-- what the inverses of two fields answer at a code
abbrev pub InvertAlike : Meaning → Meaning → ℕ → Type 0
InvertAlike m k a = (b c : Option ℕ) → Inverts m a b → Inverts k a c → b ≡ c
