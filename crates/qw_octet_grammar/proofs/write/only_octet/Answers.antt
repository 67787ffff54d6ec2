use Rattle.std.proofs.Common.{◌<◌, ◌^◌, ◌-◌, ◌+◌, arith}
use Rattle.qw_octet_grammar.proofs.WriteFacts.{many_bits}
use Rattle.qw_octet_grammar.proofs.write.only_octet.Goals as goal

pub returns-else-value-lt64 : goal.returns-else-value-lt64
returns-else-value-lt64 c =
    let h : c.args.value < 2 ^ (c.args.bits - 1) = omega (arith, c.if-value-half.true, c.pow-half.ensures) in
    omega (arith, many_bits c.args.value (c.args.bits - 1) c.if-value-lt64.false h)

pub returns-else-below-lt64 : goal.returns-else-below-lt64
returns-else-below-lt64 c =
    let e = c.pow-half.ensures in
    let below = ((c.pow-half.result - 1) + c.pow-half.result) - c.args.value in
    let h : below < 2 ^ (c.args.bits - 1) = omega (arith, c.if-value-half.false, e) in
    omega (arith, many_bits below (c.args.bits - 1) c.if-below-lt64.false h)
