-- The canonical text of a pass: the field first, decimal numerals, one blank between the words of a line, a line feed after each line.
use Rattle.std.specs.Prelude.{◌≡◌, ℕ, List, [], ◌∷◌, ◌++◌, map, None, codes, decimal}
use Rattle.std.specs.List.{flat_map}
use Rattle.text.specs.Canonical.{line_of}
use Rattle.commands.specs.declared.command.FieldName.{FieldName}
use Rattle.commands.specs.declared.command.FieldName.TheVariants.{Residues, Octets, OctetsByShifts}
use Rattle.commands.specs.declared.keyword.Keyword.TheVariants.{Field}
use Rattle.commands.specs.Format.{Reading}
use Rattle.commands.specs.Keywords.{keyword_of, keyword_text}
use Rattle.commands.specs.Lawful.{Lawful}
use Rattle.commands.specs.Steps.{Step, unknowns, offer, rank, publish, solution, kernel, symbol, report}

abbrev pub field_text : FieldName → List ℕ
field_text Residues = codes "residues"
field_text Octets = codes "octets"
field_text OctetsByShifts = codes "octets-by-shifts"

-- the words after the keyword of a step
abbrev pub argument_words : Step → List (List ℕ)
argument_words (unknowns n) = decimal n ∷ []
argument_words (offer cs v) = map decimal cs ++ (codes "|" ∷ decimal v ∷ [])
argument_words rank = []
argument_words publish = []
argument_words solution = []
argument_words (kernel k) = decimal k ∷ []
argument_words (symbol j) = decimal j ∷ []
argument_words report = []

-- the words of the line of a step, and those of the line that names the field
abbrev pub step_words : Step → List (List ℕ)
step_words c = keyword_text (keyword_of c) ∷ argument_words c

abbrev pub field_words : FieldName → List (List ℕ)
field_words f = keyword_text Field ∷ field_text f ∷ []

-- the text of a field and steps
abbrev pub written : FieldName → List Step → List ℕ
written f cs = flat_map line_of (field_words f ∷ map step_words cs)

-- where the text is the canonical text of a field and lawful steps, those are read, and no fault
abbrev pub ReadBack : List ℕ → Reading → Type 0
ReadBack text r = (f : FieldName) (cs : List Step) → Lawful cs → text ≡ written f cs → r ≡ record { field = f; steps = cs; fault = None }
