use Rattle.std.proofs.Common.{ℕ, ◌∷◌, Ok, sym, refl, ap, subst}
use Rattle.std.proofs.lemmas.Result.{err_from_is_err_and}
use Rattle.logs.specs.Offers.{offer, offered}
use Rattle.recovery.specs.Tables.{Holds}
use Rattle.recovery.proofs.Holding.{holds_refused}
use Rattle.recovery.proofs.collection.Collection.offer.Goals as goal

pub returns-in_err-check : goal.returns-in_err-check
returns-in_err-check g c =
    let m = g.F.Ring.meaning c.args.self.now.field in
    let o = offer c.args.coefficients.now c.args.value c.args.weights.now in
    let p = err_from_is_err_and c.from_residual.result c.from_residual.ensures.1 in
    let e = sym c.in_err-check.ensures in
    rw (p.1, p.2) (record {
      field = refl;
      width = refl;
      answer = sym e;
      refused = λ x k. (refl, refl);
      unkept = λ no. refl;
      log = λ n log h. holds_refused m n c.args.self.now.table log o c.in_err-check.field-0.0 e h;
    })

pub returns-clause-log : goal.returns-clause-log
returns-clause-log g c =
    λ n log h.
    let o = offer c.args.coefficients.now c.args.value c.args.weights.now in
    let P : ℕ → Type 0 = λ k.
    Holds (g.F.Ring.meaning c.args.self.now.field) k log c.args.self.now.table
    → Holds (g.F.Ring.meaning c.args.self.now.field) k (offered o (Ok c.judge.result) c.judge.new.weights ∷ log) c.judge.new.self.table in
    subst P h.width (c.judge.ensures.log log) h

pub returns-clause-unkept : goal.returns-clause-unkept
returns-clause-unkept g c = λ no. c.judge.ensures.unkept (λ k e. no k (ap Ok e))
