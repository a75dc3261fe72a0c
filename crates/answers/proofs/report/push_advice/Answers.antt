use Rattle.std.proofs.lemmas.Bool.{ne_eqb}
use Rattle.answers.proofs.report.push_advice.Goals as goal

pub returns-else-open-eq0 : goal.returns-else-open-eq0
returns-else-open-eq0 c =
    rw (ne_eqb c.args.open 0 c.if-open-eq0.false) (simp (c.noun_ending-of_symbol.ensures, c.to_be-are.ensures) at c.write.ensures.bytes)
