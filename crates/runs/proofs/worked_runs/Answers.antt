use Rattle.runs.proofs.RunLines.{runs_hold}
use Rattle.runs.proofs.worked_runs.Goals as goal

pub returns-then-residue_runs : goal.returns-then-residue_runs
returns-then-residue_runs c = record { table = runs_hold; answered = c.octet_runs.ensures runs_hold }

pub returns-else-residue_runs : goal.returns-else-residue_runs
returns-else-residue_runs c = record { table = runs_hold; answered = let e = c.residue_runs.ensures runs_hold in cc }
