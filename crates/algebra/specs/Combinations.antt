-- Weighted sums of equations.
use Rattle.std.specs.Prelude.{◌≡◌, ℕ, ◌<◌, ◌≤◌, List, length}
use Rattle.algebra.specs.Meaning.{Meaning}
use Rattle.algebra.specs.Operations.{operations, dot}
use Rattle.algebra.specs.Vectors.{Equation, Codes, entries, row}

-- weight i multiplies equation i: what the sum has in column j, and its value
abbrev pub column_sum : Meaning → List ℕ → List Equation → ℕ → ℕ
column_sum m ws es j = dot (operations m) (length es) (entries ws) (λ i. entries (row es i).coefficients j)

abbrev pub value_sum : Meaning → List ℕ → List Equation → ℕ
value_sum m ws es = dot (operations m) (length es) (entries ws) (λ i. (row es i).value)

-- n weights, 0 beyond the equations, whose weighted sum has the given coefficients
pub record Builds (m : Meaning) (n : ℕ) (es : List Equation) (ws cs : List ℕ) : Type 0 where
  pub long : length ws ≡ n
  pub codes : Codes m ws
  pub rest : (i : ℕ) → length es ≤ i → i < n → entries ws i ≡ 0
  pub columns : (j : ℕ) → j < n → column_sum m ws es j ≡ entries cs j
