use Rattle.std.proofs.Common.{rules}
use Rattle.std.proofs.lemmas.List.{get_or_append_left}
use Rattle.recovery.proofs.elimination.write.Goals as goal

pub returns : goal.returns
returns c = search (rules, get_or_append_left)
