use Rattle.std.proofs.Common.{rules}
use Rattle.recovery.proofs.Steps.{placed}
use Rattle.recovery.proofs.elimination.place.Goals as goal

pub returns : goal.returns
returns g c =
    placed (g.R.Ring.meaning c.args.r.now) c.args.n c.args.q c.args.row.now c.args.slots.now c.clear.new.slots _ c.write.new.slot
    (search rules) c.requires.pivot c.clear.auto.slots c.clear.ensures c.write.ensures
