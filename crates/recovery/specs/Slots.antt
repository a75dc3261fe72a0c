-- What the slots of a table hold: the reduced form of the kept equations, and the weights that build it.
use Rattle.std.specs.Prelude.{◌≡◌, ℕ, ◌+◌, ◌*◌, ◌<◌, not, List, map, ◌==◌}
use Rattle.algebra.specs.Among.{among}
use Rattle.algebra.specs.Matrix.{tabulate}
use Rattle.algebra.specs.Meaning.{Meaning}
use Rattle.algebra.specs.Vectors.{Equation}
use Rattle.algebra.specs.Combinations.{Builds, value_sum}
use Rattle.logs.specs.Reduced.{ReducedForm}
use Rattle.recovery.specs.Cells.{cell}

-- the row in slot p as an equation, and its weights
abbrev pub slot_row : List (List ℕ) → ℕ → ℕ → Equation
slot_row slots n p = record { coefficients = tabulate n (λ j. cell slots p j); value = cell slots p n }

abbrev pub slot_weights : List (List ℕ) → ℕ → ℕ → List ℕ
slot_weights slots n p = tabulate n (λ i. cell slots p (n + 1 + i))

-- the columns whose slots are not empty, and the rows in these
abbrev pub pivots_in : List (List ℕ) → ℕ → List ℕ
pivots_in slots n = among (λ i. not (cell slots i i == 0)) 0 n

abbrev pub rows_in : List (List ℕ) → ℕ → List Equation
rows_in slots n = map (slot_row slots n) (pivots_in slots n)

pub record Slots (m : Meaning) (n : ℕ) (es : List Equation) (slots : List (List ℕ)) : Type 0 where
  pub codes : (p j : ℕ) → p < n → j < 2 * n + 1 → cell slots p j < m.order
  -- a slot with 0 in its own column is empty
  pub empty : (p j : ℕ) → p < n → j < 2 * n + 1 → cell slots p p ≡ 0 → cell slots p j ≡ 0
  -- the others are the reduced form of the equations
  pub form : ReducedForm m n es (rows_in slots n) (pivots_in slots n)
  -- and the weights beside each row build it from the equations
  pub builds : (p : ℕ) → p < n → Builds m n es (slot_weights slots n p) (slot_row slots n p).coefficients
  pub values : (p : ℕ) → p < n → value_sum m (slot_weights slots n p) es ≡ cell slots p n
