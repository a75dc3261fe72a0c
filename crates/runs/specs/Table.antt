-- Worked runs of collections, gathered into one table.
use Rattle.std.specs.Prelude.{ℕ, List, [], ◌∷◌}
use Rattle.algebra.specs.Meaning.{Meaning}
use Rattle.logs.specs.declared.answer.Answer.TheVariants.{Kept, Implied, Contradiction}
use Rattle.logs.specs.declared.answer.Symbol.TheVariants.{Known, Open}
use Rattle.rings.specs.Modulo.{residues}
use Rattle.rings.specs.Octets.{octets}
use Rattle.runs.specs.declared.run.Step.{Step}
use Rattle.runs.specs.declared.run.Asked.{Asked}
use Rattle.runs.specs.declared.run.Asked.TheVariants.{Solution, Kernel, Unknown}
use Rattle.runs.specs.Runs.{step, Runs}

-- a line: a run of a collection over a field, on n unknowns
pub data Line : Type 0 where
  run : Meaning → (n : ℕ) → List (Step n) → List (Asked n) → Line

abbrev pub Holds : Line → Type 0
Holds (run m n steps asked) = Runs m n steps asked

abbrev pub AllHold : List Line → Type 0
AllHold [] = Unit {0}
AllHold (l ∷ ls) = Holds l × AllHold ls

-- an equation is kept; a multiple of it comes with its value, then with another; over the residues one more is kept
abbrev pub residue_pair : List (Step 2)
residue_pair =
    step (1 ∷ 1 ∷ []) 3 (Kept 0) (0 ∷ 0 ∷ [])
    ∷ step (2 ∷ 2 ∷ []) 6 Implied (2 ∷ 0 ∷ [])
    ∷ step (2 ∷ 2 ∷ []) 7 Contradiction (2 ∷ 0 ∷ [])
    ∷ step (0 ∷ 1 ∷ []) 1 (Kept 1) (0 ∷ 0 ∷ [])
    ∷ []

abbrev pub octet_pair : List (Step 2)
octet_pair =
    step (1 ∷ 2 ∷ []) 3 (Kept 0) (0 ∷ 0 ∷ [])
    ∷ step (3 ∷ 6 ∷ []) 5 Implied (3 ∷ 0 ∷ [])
    ∷ step (3 ∷ 6 ∷ []) 9 Contradiction (3 ∷ 0 ∷ [])
    ∷ []

-- two equations in either order, which leave one unknown free, and what is asked after both
abbrev pub first_order : List (Step 3)
first_order =
    step (1 ∷ 1 ∷ 0 ∷ []) 5 (Kept 0) (0 ∷ 0 ∷ 0 ∷ [])
    ∷ step (0 ∷ 0 ∷ 1 ∷ []) 4 (Kept 1) (0 ∷ 0 ∷ 0 ∷ [])
    ∷ []

abbrev pub second_order : List (Step 3)
second_order =
    step (0 ∷ 0 ∷ 1 ∷ []) 4 (Kept 0) (0 ∷ 0 ∷ 0 ∷ [])
    ∷ step (1 ∷ 1 ∷ 0 ∷ []) 5 (Kept 1) (0 ∷ 0 ∷ 0 ∷ [])
    ∷ []

abbrev pub asked_of_either : List (Asked 3)
asked_of_either =
    Solution (5 ∷ 0 ∷ 4 ∷ [])
    ∷ Kernel 0 (65520 ∷ 1 ∷ 0 ∷ [])
    ∷ Unknown 2 (Known 4)
    ∷ Unknown 0 (Open 0)
    ∷ []

-- no coefficient but 0, offered to a new collection
abbrev pub no_coefficient : List (Step 1)
no_coefficient =
    step (0 ∷ []) 0 Implied (0 ∷ [])
    ∷ step (0 ∷ []) 1 Contradiction (0 ∷ [])
    ∷ []

abbrev pub runs : List Line
runs =
    run residues 2 residue_pair (Solution (2 ∷ 1 ∷ []) ∷ [])
    ∷ run residues 3 first_order asked_of_either
    ∷ run residues 3 second_order asked_of_either
    ∷ run residues 1 no_coefficient []
    ∷ run octets 2 octet_pair []
    ∷ run octets 1 no_coefficient []
    ∷ []
