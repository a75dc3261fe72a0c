-- One turn of the loop keeps factor × a equal to rest.
use Rattle.std.proofs.Common.{◌≡◌, ◌-◌, ◌*◌, ◌/◌, ◌%◌, ◌<◌, ap, ◌∙◌, mod-lt, arith}
use Rattle.algebra.proofs.Guarded.{inside}
use Rattle.rings.specs.Primes.{prime, next}
use Rattle.rings.proofs.residues.ResiduesField.inverse.Goals as goal

pub loop-rest-preserved : goal.loop-rest-preserved
loop-rest-preserved c =
    let inv = c.loop-rest.invariant in
    let a = c.args.a in
    let rest = c.loop-rest.rest in
    let factor = c.loop-rest.factor in
    let less : 65521 % rest < rest = mod-lt 65521 inv.0 in
    let some : 0 < 65521 / rest = grind arith in
    let times : c.product-factor.result ≡ (factor * (65521 - 65521 / rest)) % 65521 =
    c.product-factor.ensures.value ∙ inside 65521 factor (65521 - 65521 / rest) _ inv.2 (omega arith) in (
      prime rest (omega arith) inv.1,
      omega arith,
      omega (arith, times),
      ap (λ z. (z * a) % 65521) times
          ∙ next 65521 rest inv.0 inv.1 a factor inv.3,
    )
