use Rattle.std.proofs.Common.{◌≡◌, ◌≤◌, ◌<◌, ◌+◌, ◌*◌, ◌-◌, ◌^◌, ◌∙◌, add-one, ap, arith, refl}
use Rattle.std.specs.Prelude.{slice_get}
use Rattle.qw_columns.specs.Inner.Writing.{bit_of, flags_from, is_null}
use Rattle.qw_columns.proofs.WriteLemmas.{bit-below, byte_of_flag, flags-below, flags_more}
use Rattle.std.proofs.Math.Pow.{pow_mono}
use Rattle.qw_columns.proofs.writing.null_octet.Goals as goal

pub loop-bit-init : goal.loop-bit-init
unfolding flags_from
loop-bit-init c = refl

small : (c : goal.In-loop-bit) → c.loop-bit.octet < 128
small c =
    let below = flags-below c.args.column.now.values (8 * c.args.group + 8 - c.loop-bit.bit) c.loop-bit.bit in
    let most : 2 ^ c.loop-bit.bit ≤ 2 ^ 7 = pow_mono {i = c.loop-bit.bit} {j = 7} (omega (arith, c.loop-bit-test.true)) in
    omega (arith, below, most, c.loop-bit.invariant)

pub overflow_mul-octet : goal.overflow_mul-octet
overflow_mul-octet c = omega (arith, small c)

flag : (c : goal.After-from) → c.from.result ≡ bit_of (is_null (slice_get c.args.column.now.values (8 * c.args.group + 7 - c.loop-bit.bit)))
flag c = c.from.ensures ∙ byte_of_flag c.is_null.result ∙ ap bit_of c.is_null.ensures

pub overflow_add-octet : goal.overflow_add-octet
overflow_add-octet c = omega (arith, small c.before.before, flag c, bit-below (is_null (slice_get c.args.column.now.values (8 * c.args.group + 7 - c.loop-bit.bit))))

pub loop-bit-preserved : goal.loop-bit-preserved
loop-bit-preserved c =
    let row : 8 * c.args.group + 8 - (c.loop-bit.bit + 1) ≡ 8 * c.args.group + 7 - c.loop-bit.bit = omega arith in
    rw (row, add-one) (flags_more c.args.column.now.values (8 * c.args.group + 7 - c.loop-bit.bit) (8 * c.args.group + 8 - c.loop-bit.bit) c.loop-bit.bit
    c.loop-bit.octet c.from.result (omega (arith, c.loop-bit-test.true)) c.loop-bit.invariant (flag c))
