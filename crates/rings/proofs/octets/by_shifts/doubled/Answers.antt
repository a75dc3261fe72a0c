-- The shift drops x^8, which is x^4 + x^3 + x^2 + 1.
use Rattle.std.proofs.Common.{◌≡◌, ◌+◌, ◌*◌, ◌%◌, ◌<◌, sym, ap, ◌∙◌, zero-add, arith, lit<}
use Rattle.std.proofs.lemmas.Nat.{xor_block}
use lib.Bits.{bit_xor}
use Rattle.rings.specs.OctetLaws.{double_low, double_high}
use Rattle.rings.specs.OctetFields.{two}
use Rattle.rings.specs.OctetTests.{tests}
use Rattle.rings.proofs.octets.by_shifts.doubled.Goals as goal

pub returns-then-a-lt128 : goal.returns-then-a-lt128
returns-then-a-lt128 c =
    let a = c.args.a in
    let whole : a * 2 % 256 ≡ a * 2 = omega arith in
    whole ∙ sym (two tests a (omega arith) ∙ double_low 0x11D a c.if-a-lt128.true)

pub returns-else-a-lt128 : goal.returns-else-a-lt128
returns-else-a-lt128 c =
    let a = c.args.a in
    let r = a * 2 % 256 in
    let low : r < 256 = omega arith in
    let whole : 1 * 256 + r ≡ a * 2 = omega arith in
    sym
    (two tests a (omega arith)
    ∙ double_high 0x11D a c.if-a-lt128.false (omega arith)
    ∙ ap (λ z. bit_xor z 0x11D) (sym whole)
    ∙ xor_block 8 1 1 r 0x1D low (lit< tt)
    ∙ zero-add (bit_xor r 0x1D))
