use Rattle.runs.proofs.Matching.{asking_more, asking_fails}
use Rattle.runs.proofs.answering.replies_match.Goals as goal

pub loop-one-preserved : goal.loop-one-preserved
loop-one-preserved g c =
    asking_more _ g.row.N c.args.asked.now c.args.published.now.table c.one-item.result c.loop-one.one-index c.loop-one-test.true
    c.one-item.is c.loop-one.invariant c.if-not-reply_matches.ensures

pub returns-then-not-reply_matches : goal.returns-then-not-reply_matches
returns-then-not-reply_matches g c =
    asking_fails _ g.row.N c.args.asked.now c.args.published.now.table c.one-item.result c.loop-one.one-index c.loop-one-test.true
    c.one-item.is c.loop-one.invariant c.if-not-reply_matches.ensures
