-- The numbers of unknowns that a collection can have.
use Rattle.std.specs.Prelude.{ℕ, Bool, ◌&&◌, nat_le}

-- from 1 to 64
abbrev pub is_width : ℕ → Bool
is_width n = nat_le 1 n && nat_le n 64
