-- A number on a line, after what stands there already.
use Rattle.std.specs.Prelude.{ℕ, List, ◌∷◌, decimal}

-- a blank and a number
abbrev pub after_blank : ℕ → List ℕ
after_blank n = 32 ∷ decimal n
