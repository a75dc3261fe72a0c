-- Worked values, gathered into one table.
use Rattle.std.specs.Prelude.{◌≡◌, ℕ, List, [], ◌∷◌, Some, None, Option}
use Rattle.algebra.specs.Meaning.{Meaning}
use Rattle.algebra.specs.Inverse.{Inverts}
use Rattle.rings.specs.Modulo.{residues, words}
use Rattle.rings.specs.Octets.{octets}

-- a line: a + b = c, a × b = c, or the inverse of a, in a ring
pub data Line : Type 0 where
  sum : Meaning → ℕ → ℕ → ℕ → Line
  product : Meaning → ℕ → ℕ → ℕ → Line
  inverse : Meaning → ℕ → Option ℕ → Line

abbrev pub Holds : Line → Type 0
Holds (sum m a b c) = m.sum a b ≡ c
Holds (product m a b c) = m.product a b ≡ c
Holds (inverse m a b) = Inverts m a b

abbrev pub AllHold : List Line → Type 0
AllHold [] = Unit {0}
AllHold (l ∷ ls) = Holds l × AllHold ls

abbrev pub table : List Line
table =
    sum residues 65520 1 0
    ∷ product residues 65520 65520 1
    ∷ inverse residues 2 (Some 32761)
    ∷ inverse residues 0 None
    ∷ product octets 128 2 29
    ∷ product octets 3 7 9
    ∷ product octets 3 3 5
    ∷ inverse octets 2 (Some 142)
    ∷ product words 4294967295 4294967295 1
    ∷ []
