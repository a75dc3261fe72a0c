-- How many lines of meaning are left, by which readers end.
use Rattle.std.proofs.Common.{ℕ, suc}
use Rattle.text.specs.Lines.{Lines, end, line}

abbrev pub count : Lines → ℕ
count (end n) = 0
count (line n ws ls) = suc (count ls)
