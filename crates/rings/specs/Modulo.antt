-- The integers modulo n, as codes: the remainders 0 to n - 1.
use Rattle.std.specs.Prelude.{ℕ, ◌+◌, ◌-◌, ◌*◌, ◌%◌, ◌^◌}
use Rattle.algebra.specs.Meaning.{Meaning, meant}

abbrev pub modulo : ℕ → Meaning
modulo n = meant n (λ a b. (a + b) % n) (λ a b. (a * b) % n) (λ a. (n - a) % n)

-- the residues modulo the largest prime below 2^16
abbrev pub residues : Meaning
residues = modulo 65521

-- the words of 32 bits
abbrev pub words : Meaning
words = modulo (2 ^ 32)
