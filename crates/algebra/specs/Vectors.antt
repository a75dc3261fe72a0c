-- Vectors of codes, linear equations on them, and the vectors that equations leave possible.
use Rattle.std.specs.Prelude.{◌≡◌, ℕ, ◌<◌, List, [], length, slice_index, slice_index_or}
use Rattle.algebra.specs.Meaning.{Meaning}
use Rattle.algebra.specs.Operations.{operations, dot}

-- entry i of a list, and 0 past its end
abbrev pub entries : List ℕ → ℕ → ℕ
entries xs i = slice_index xs i

abbrev pub Codes : Meaning → List ℕ → Type 0
Codes m xs = (i : ℕ) → i < length xs → entries xs i < m.order

-- n codes
pub record Vector (m : Meaning) (n : ℕ) (v : List ℕ) : Type 0 where
  pub long : length v ≡ n
  pub codes : Codes m v

pub record Equation : Type 0 where
  pub coefficients : List ℕ
  pub value : ℕ

-- what stands past the end of a list of equations
abbrev pub nothing : Equation
nothing = record { coefficients = []; value = 0 }

-- equation i of a list
abbrev pub row : List Equation → ℕ → Equation
row es i = slice_index_or es i nothing

-- an equation on n unknowns, in codes
pub record Sound (m : Meaning) (n : ℕ) (e : Equation) : Type 0 where
  pub coefficients : Vector m n e.coefficients
  pub value : e.value < m.order

abbrev pub Sounds : Meaning → ℕ → List Equation → Type 0
Sounds m n es = (i : ℕ) → i < length es → Sound m n (row es i)

-- the sum of coefficient times entry is the value
abbrev pub Satisfies : Meaning → List ℕ → Equation → Type 0
Satisfies m v e = dot (operations m) (length v) (entries e.coefficients) (entries v) ≡ e.value

-- a vector of n codes that satisfies every equation
pub record Possible (m : Meaning) (n : ℕ) (es : List Equation) (v : List ℕ) : Type 0 where
  pub vector : Vector m n v
  pub meets : (i : ℕ) → i < length es → Satisfies m v (row es i)
