-- The steps read so far, and then those of the lines that are left, are those of the whole text.
use Rattle.std.proofs.Common.{◌≡◌, ℕ, List, [], ◌∷◌, ◌++◌, map, Ok, sym, ap, ◌∙◌}
use Rattle.std.proofs.lemmas.List.{append_assoc, map_push}
use Rattle.text.specs.Lines.{Lines, line}
use Rattle.commands.specs.declared.command.Command.{Command}
use Rattle.commands.specs.declared.command.FieldName.{FieldName}
use Rattle.commands.specs.declared.state.State.{State}
use Rattle.commands.specs.Format.{does, said, Reading, read_from}
use Rattle.commands.specs.Order.{after}
use Rattle.commands.specs.Steps.{Step, step_of}

-- steps before those of a reading
abbrev pub following : List Step → Reading → Reading
following cs r = record { field = r.field; steps = cs ++ r.steps; fault = r.fault }

pub one_more : (cs ds : List Command) (c : Command) (s t : State) (f : FieldName) (ls rest : Lines) (n : ℕ) (ws : List (List ℕ)) → ls ≡ line n ws rest → said s ws ≡ Ok (does (step_of c)) → t ≡ after (step_of c) → ds ≡ cs ++ c ∷ [] → following (map step_of cs) (read_from s f ls) ≡ following (map step_of ds) (read_from t f rest)
one_more cs ds c s t f ls rest n ws e h to pushed =
    let r = read_from (after (step_of c)) f rest in
    let same : map step_of cs ++ (step_of c ∷ r.steps) ≡ map step_of (cs ++ c ∷ []) ++ r.steps = sym (ap (λ l. l ++ r.steps) (map_push step_of cs c) ∙ append_assoc (map step_of cs) (step_of c ∷ []) r.steps) in
    rw (e, h, to, pushed) (ap (λ l. record { field = r.field; steps = l; fault = r.fault }) same)
