-- The sides that a window can have, and the length that its slice has to have.
use Rattle.std.specs.Prelude.{ℕ, ◌*◌, Bool, cond, ◌&&◌, Ok, Err, Result, ◌==◌, nat_le}
use Rattle.windows.specs.declared.refusal.Refusal.{Refusal}
use Rattle.windows.specs.declared.refusal.Refusal.TheVariants.{Side, Length}

-- from 1 to 256
abbrev pub is_side : ℕ → Bool
is_side n = nat_le 1 n && nat_le n 256

-- whether a slice of a length can be shown with these sides: the sides first, then the length
abbrev pub checked : ℕ → ℕ → ℕ → Result (Unit {0}) Refusal
checked rows columns length =
    cond (is_side rows && is_side columns) (cond (length == rows * columns) (Ok tt) (Err Length)) (Err Side)
