-- Lists whose elements are chosen one by one from given lists.
use Rattle.std.specs.Prelude.{◌≡◌, ℕ, ◌*◌, ◌⊎◌, List, [], ◌∷◌, ◌++◌, map, length}

module _ {A : Type 0} where
  abbrev pub In : A → List A → Type 0
  In a [] = ⊥
  In a (x ∷ xs) = (a ≡ x) ⊎ In a xs

  -- no element stands twice
  abbrev pub Apart : List A → Type 0
  Apart [] = Unit {0}
  Apart (x ∷ xs) = (¬ In x xs) × Apart xs

  abbrev pub prefixed : List A → List (List A) → List (List A)
  prefixed [] vs = []
  prefixed (x ∷ xs) vs = map (λ v. x ∷ v) vs ++ prefixed xs vs

  -- the lists whose i-th element is one of the i-th of these
  abbrev pub choices : List (List A) → List (List A)
  choices [] = [] ∷ []
  choices (xs ∷ xss) = prefixed xs (choices xss)

  abbrev pub Each : List A → List (List A) → Type 0
  Each [] [] = Unit {0}
  Each [] (xs ∷ xss) = ⊥
  Each (a ∷ l) [] = ⊥
  Each (a ∷ l) (xs ∷ xss) = In a xs × Each l xss

  abbrev pub sizes : List (List A) → ℕ
  sizes [] = 1
  sizes (xs ∷ xss) = length xs * sizes xss
