-- The rules of the two tables of an octet field: powers of 2 by doubling, and logarithms, which invert them.
use Rattle.std.specs.Prelude.{ℕ, zero, suc, ◌-◌, ◌*◌, Bool, true, cond, ◌&&◌, List, [], ◌∷◌, ◌==◌, bit_xor, nat_lt, slice_index}

-- 2 times a code, reduced by p where it reaches 256
abbrev pub twice : ℕ → ℕ → ℕ
twice p a = cond (nat_lt a 128) (a * 2) (bit_xor (a * 2) p)

-- each entry is 2 times the one before, the first of them 2 times a
abbrev pub doubling : ℕ → ℕ → List ℕ → Bool
doubling p a [] = true
doubling p a (b ∷ bs) = b == twice p a && doubling p b bs

-- entry 0 is 1, and each later entry is 2 times the one before
abbrev pub are_powers : ℕ → List ℕ → Bool
are_powers p [] = true
are_powers p (a ∷ rest) = a == 1 && doubling p a rest

-- of n powers, the first of them power i, which is a: the entry for each is its exponent; entry c - 1 is for the code c
abbrev pub inverts_from : ℕ → ℕ → ℕ → ℕ → List ℕ → Bool
inverts_from p zero i a logarithms = true
inverts_from p (suc n) i a logarithms =
    (slice_index logarithms (a - 1) == i) && inverts_from p n (suc i) (twice p a) logarithms

-- the logarithm of power i is i, for i below 255
abbrev pub are_logarithms : ℕ → List ℕ → Bool
are_logarithms p logarithms = inverts_from p 255 0 1 logarithms
