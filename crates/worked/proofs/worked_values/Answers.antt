use Rattle.worked.proofs.Lines.{all_hold}
use Rattle.worked.proofs.worked_values.Goals as goal

pub returns-clause-table : goal.returns-clause-table
returns-clause-table c = all_hold
