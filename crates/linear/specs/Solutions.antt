-- All vectors that satisfy a reduced table, listed by what its free columns hold.
use Rattle.std.specs.Prelude.{ℕ, zero, suc, ◌+◌, List, [], ◌∷◌, map, slice_index_or}
use Rattle.algebra.specs.Matrix.{tabulate}
use Rattle.algebra.specs.Operations.{dot}
use Rattle.linear.specs.Field.{FieldOn, ops}
use Rattle.linear.specs.Choices.{choices}

abbrev pub by : {A B : Type 0} → Dec A → B → B → B
by (yes a) x y = x
by (no a) x y = y

module _ {K : Type 0} (F : FieldOn K) (R : ℕ → ℕ → K) where
  open F.ring.ops use {𝟘, ◌⊕◌, ⊖}
  open F use {dec}

  -- how many of the n columns from a on are free
  abbrev pub frees : ℕ → ℕ → ℕ
  frees a zero = 0
  frees a (suc n) = by (dec (R a a) 𝟘) (suc (frees (a + 1) n)) (frees (a + 1) n)

  -- what a free column may hold, and 0 for a pivot
  abbrev pub cell : List K → ℕ → List K
  cell all p = by (dec (R p p) 𝟘) all (𝟘 ∷ [])

  abbrev pub vector : ℕ → (ℕ → K) → List K → List K
  vector n val w = tabulate n (λ c. val c ⊕ (slice_index_or w c 𝟘 ⊕ ⊖ (dot (ops F) n (R c) (λ i. slice_index_or w i 𝟘))))

  abbrev pub solutions : ℕ → (ℕ → K) → List K → List (List K)
  solutions n val all = map (vector n val) (choices (tabulate n (cell all)))
