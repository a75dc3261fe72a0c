use Rattle.recovery.proofs.Holding.{holds_ranked}
use Rattle.recovery.proofs.collection.Collection.rank.Goals as goal

pub returns-clause-log : goal.returns-clause-log
returns-clause-log g c = λ n log h. holds_ranked _ n c.args.self.now.table log h
