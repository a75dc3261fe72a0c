-- The free columns of the slots, and which of them move an unknown.
use Rattle.std.specs.Prelude.{◌≡◌, ℕ, ◌<◌, ◌≢◌, List, length, Some, None, Option, nat_eq, slice_index}
use Rattle.algebra.specs.Among.{among}
use Rattle.algebra.specs.Vectors.{entries}
use Rattle.recovery.specs.Cells.{cell}

-- the columns below n whose slot is empty
abbrev pub free_in : List (List ℕ) → ℕ → List ℕ
free_in slots n = among (λ i. nat_eq (cell slots i i) 0) 0 n

-- the k-th free column leaves the unknown j as it is
abbrev pub Leaves : List (List ℕ) → ℕ → ℕ → ℕ → Type 0
Leaves slots n j k = (slice_index (free_in slots n) k ≢ j) × (cell slots j (slice_index (free_in slots n) k) ≡ 0)

-- the first free column that moves the unknown j
abbrev pub FirstMoving : List (List ℕ) → ℕ → ℕ → Option ℕ → Type 0
FirstMoving slots n j None = (x : ℕ) → x < length (free_in slots n) → Leaves slots n j x
FirstMoving slots n j (Some k) =
    (k < length (free_in slots n)) × (Leaves slots n j k → ⊥) × ((x : ℕ) → x < k → Leaves slots n j x)

-- the negatives of column f, with 1 at f
pub record NegativeColumn (negative : ℕ → ℕ) (slots : List (List ℕ)) (f : ℕ) (out : List ℕ) : Type 0 where
  pub here : entries out f ≡ 1
  pub others : (k : ℕ) → k < length out → k ≢ f → entries out k ≡ negative (cell slots k f)
