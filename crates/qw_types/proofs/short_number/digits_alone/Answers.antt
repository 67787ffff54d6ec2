use Rattle.std.proofs.Common.{◌∙◌, sym, arith}
use Rattle.qw_types.proofs.ShortNumberLemmas.{digit_more, room}
use Rattle.qw_types.proofs.short_number.digits_alone.Goals as goal

pub digit_behind-number-requires-clause-small : goal.digit_behind-number-requires-clause-small
digit_behind-number-requires-clause-small c =
    room c.args.text.now c.loop-index.index c.loop-index.number (omega (arith, c.if-text-gt18.false, c.loop-index-test.true)) (omega (arith, c.loop-index-test.true))
    c.loop-index.invariant.0 c.loop-index.invariant.1

pub loop-index-preserved : goal.loop-index-preserved
loop-index-preserved c =
    digit_more c.args.text.now c.loop-index.index c.loop-index.number c.digit_behind-number.result c.loop-index-test.true
    (sym c.is_ascii_digit.ensures.value ∙ c.if-not-is_ascii_digit.false) c.digit_behind-number.ensures c.loop-index.invariant
