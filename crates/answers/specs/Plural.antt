-- Words that depend on a count.
use Rattle.std.specs.Prelude.{ℕ, cond, List, [], codes, ◌==◌}

-- the end of a noun
abbrev pub ending : ℕ → List ℕ
ending n = cond (n == 1) [] (codes "s")

abbrev pub verb : ℕ → List ℕ
verb n = cond (n == 1) (codes "is") (codes "are")
