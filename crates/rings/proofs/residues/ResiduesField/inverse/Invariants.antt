-- Throughout, factor × a is rest, which falls.
use Rattle.std.proofs.Common.{◌≡◌, ◌*◌, ◌%◌, ◌<◌}
use Rattle.rings.proofs.residues.ResiduesField.inverse.Given as goal

abbrev pub invariant-loop-rest : goal.invariant-loop-rest
invariant-loop-rest l = (0 < l.rest) × (l.rest < 65521) × (l.factor < 65521) × ((l.factor * l.a) % 65521 ≡ l.rest)

abbrev pub decreases-loop-rest : goal.decreases-loop-rest
decreases-loop-rest l = l.rest
