-- What is read as the format has it is lawful, and is read back from canonical text.
use Rattle.std.proofs.Common.{◌≡◌, ap, ◌∙◌}
use Rattle.std.proofs.lemmas.Result.{IfOk-weaker}
use Rattle.text.specs.Cursors.{left}
use Rattle.commands.specs.declared.command.FieldName.TheVariants.{Residues}
use Rattle.commands.specs.declared.reading.Parsed.{Parsed}
use Rattle.commands.specs.declared.state.State.TheVariants.{Start}
use Rattle.commands.specs.Format.{read_from, reading}
use Rattle.commands.specs.Readings.{reading_of}
use Rattle.commands.proofs.Ordering.{lawful}
use Rattle.commands.proofs.Recalling.{read_back}
use Rattle.commands.proofs.reading.parse.Goals as goal

pub returns : goal.returns
returns c =
    let text = c.args.text.now in
    let whole : (p : Parsed) → reading_of p ≡ read_from Start Residues (left c.start.result) → reading_of p ≡ reading text = λ p e. e ∙ ap (read_from Start Residues) c.start.ensures in
    let read = c.read_lines.ensures in
    record {
      format = IfOk-weaker _ _ _ whole read;
      lawful = IfOk-weaker _ _ _ (λ p e. lawful text (reading_of p) (whole p e)) read;
      back = IfOk-weaker _ _ _ (λ p e. read_back text (reading_of p) (whole p e)) read;
    }
