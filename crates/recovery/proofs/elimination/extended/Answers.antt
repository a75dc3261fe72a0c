use Rattle.recovery.proofs.Steps.{extended_row}
use Rattle.recovery.proofs.elimination.extended.Goals as goal

pub returns : goal.returns
returns c = extended_row c.args.coefficients.now c.copy_from_slice.new.self c.args.value c.copy_from_slice.ensures.after c.requires
