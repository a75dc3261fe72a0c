-- The message of a fault.
use Rattle.std.specs.Prelude.{ℕ, List, ◌++◌, codes, decimal}

-- the number of the line, and the text of what was expected there
abbrev pub fault_text : ℕ → List ℕ → List ℕ
fault_text n expected = codes "line " ++ (decimal n ++ (codes ": expected " ++ expected))
