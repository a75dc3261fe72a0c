use Rattle.std.proofs.Common.{Some, None, refl, arith, rules}
use Rattle.recovery.proofs.Laws.{field_laws}
use Rattle.recovery.proofs.Steps.{first_of}
use Rattle.recovery.proofs.Holding.{holds_implied, holds_contradicted, holds_room, holds_kept}
use Rattle.recovery.proofs.collection.Collection.judge.Goals as goal

pub returns-then-count-n-clause-unkept : goal.returns-then-count-n-clause-unkept
returns-then-count-n-clause-unkept g c = λ no. absurd (no _ refl)

pub returns-then-count-n-clause-log : goal.returns-then-count-n-clause-log
returns-then-count-n-clause-log g c =
    λ log h.
    holds_kept _ (field_laws _ g.met.F.Ring.laws g.met.F.Field.inverses c.args.self.now.field) c.args.self.now.table log _ h c.requires _ _
    c.extended-cells.ensures (search rules) c.reduce.auto.left c.reduce.ensures _ (first_of c.args.self.now.table.width c.reduce.new.left (Some c.in-Some.q) (search rules) c.in-Some.ensures) c.keep.new.left c.keep.auto.left
    c.keep.new.self.table c.keep.ensures.table c.fill.new.self (c.fill.ensures.after (λ y e. e))

-- there is always room
pub returns-else-count-n-clause-log : goal.returns-else-count-n-clause-log
returns-else-count-n-clause-log g c =
    λ log h.
    let room =
    holds_room _ (field_laws _ g.met.F.Ring.laws g.met.F.Field.inverses c.args.self.now.field) c.args.self.now.table log _ h c.requires _ _
    c.extended-cells.ensures (search rules) c.reduce.auto.left c.reduce.ensures _ (first_of c.args.self.now.table.width c.reduce.new.left (Some c.in-Some.q) (search rules) c.in-Some.ensures) in
    absurd (omega (arith, room, c.if-count-n.false))

pub returns-then-left-n-eq0-clause-log : goal.returns-then-left-n-eq0-clause-log
returns-then-left-n-eq0-clause-log g c =
    λ log h.
    holds_implied _ (field_laws _ g.met.F.Ring.laws g.met.F.Field.inverses c.args.self.now.field) c.args.self.now.table log _ h c.requires _ _
    c.extended-cells.ensures (search rules) c.reduce.auto.left c.reduce.ensures (first_of c.args.self.now.table.width c.reduce.new.left None (search rules) c.in-None.ensures) c.write_negatives.new.out
    c.write_negatives.auto.out c.write_negatives.ensures c.if-left-n-eq0.true

pub returns-else-left-n-eq0-clause-log : goal.returns-else-left-n-eq0-clause-log
returns-else-left-n-eq0-clause-log g c =
    λ log h.
    holds_contradicted _ (field_laws _ g.met.F.Ring.laws g.met.F.Field.inverses c.args.self.now.field) c.args.self.now.table log _ h c.requires _ _
    c.extended-cells.ensures (search rules) c.reduce.auto.left c.reduce.ensures (first_of c.args.self.now.table.width c.reduce.new.left None (search rules) c.in-None.ensures) c.write_negatives.new.out
    c.write_negatives.auto.out c.write_negatives.ensures c.if-left-n-eq0.false
