use Rattle.std.proofs.Common.{◌≡◌, true, Decides, Ok, rules, sym, ◌∙◌}
use Rattle.std.proofs.lemmas.Bool.Decides.{Decides-eqb}
use Rattle.std.proofs.lemmas.Slice.Eq.{slice_eq-Decides}
use Rattle.linear.specs.Field.{FieldLaws}
use Rattle.logs.specs.Questions.{wrote, said}
use Rattle.runs.specs.declared.run.Asked.TheVariants.{Solution, Kernel, Unknown}
use Rattle.runs.proofs.Matching.{said_decides, wrote_decides, reply_matched}
use Rattle.runs.proofs.answering.reply_matches.Goals as goal

pub returns-then-is_ok : goal.returns-then-is_ok
returns-then-is_ok g c =
    let p = c.args.published.now in
    let laws : FieldLaws (g.F.Ring.meaning p.field) =
    record { ring = g.met.F.Ring.laws p.field; inverses = g.met.F.Field.inverses p.field }
    in
    let v = c.in-Solution.vector in
    let found = c.solution in
    let same : Decides c.eq.result (found.new.out ≡ v) = slice_eq-Decides Decides-eqb _ _ _ c.eq.ensures in
    reply_matched _ laws g.row.N c.args.asked (Solution v) c.in-Solution.is p.table (wrote found.result found.new.out)
    _ (found.ensures.log g.row.N)
    (wrote_decides found.result found.new.out v true c.eq.result (sym c.if-is_ok.true ∙ c.is_ok.ensures.value) same)

pub returns-then-is_ok-2 : goal.returns-then-is_ok-2
returns-then-is_ok-2 g c =
    let p = c.args.published.now in
    let laws : FieldLaws (g.F.Ring.meaning p.field) =
    record { ring = g.met.F.Ring.laws p.field; inverses = g.met.F.Field.inverses p.field }
    in
    let k = c.in-Kernel.k in
    let v = c.in-Kernel.vector in
    let found = c.kernel in
    let same : Decides c.eq-then-is_ok-2.result (found.new.out ≡ v) = slice_eq-Decides Decides-eqb _ _ _ c.eq-then-is_ok-2.ensures in
    reply_matched _ laws g.row.N c.args.asked (Kernel k v) c.in-Kernel.is p.table (wrote found.result found.new.out)
    _ (found.ensures.log g.row.N)
    (wrote_decides found.result found.new.out v true c.eq-then-is_ok-2.result (sym c.if-is_ok-2.true ∙ c.is_ok-in-Kernel.ensures.value) same)

pub returns-in-Unknown : goal.returns-in-Unknown
returns-in-Unknown g c =
    let p = c.args.published.now in
    let laws : FieldLaws (g.F.Ring.meaning p.field) =
    record { ring = g.met.F.Ring.laws p.field; inverses = g.met.F.Field.inverses p.field }
    in
    let s = c.in-Unknown.symbol in
    let found = c.unknown in
    let same : Decides c.eq-in-Unknown.result (found.result ≡ Ok s) = search rules in
    reply_matched _ laws g.row.N c.args.asked (Unknown c.in-Unknown.j s) c.in-Unknown.is p.table (said found.result)
    _ (found.ensures.log g.row.N) (said_decides found.result s c.eq-in-Unknown.result same)
