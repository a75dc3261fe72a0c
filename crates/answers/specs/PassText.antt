-- What two passes over the same blocks come to.
use Rattle.std.specs.Prelude.{ℕ, List, [], ◌∷◌, codes, decimal}
use Rattle.std.specs.List.{concat}
use Rattle.answers.specs.Plural.{ending, verb}

-- all published answers of so many blocks are equal
abbrev pub agree_text : ℕ → ℕ → List ℕ
agree_text blocks answers =
    concat (
    codes "agree: " ∷ decimal blocks ∷ codes " block" ∷ ending blocks ∷ codes ", "
    ∷ decimal answers ∷ codes " published answer" ∷ ending answers ∷ codes " " ∷ verb answers ∷ codes " equal\n" ∷ []
    )

-- two lines that differ
abbrev pub differ_text : ℕ → List ℕ → List ℕ → List ℕ
differ_text block first second = concat (codes "differ: block " ∷ decimal block ∷ codes ": " ∷ first ∷ codes " / " ∷ second ∷ codes "\n" ∷ [])
