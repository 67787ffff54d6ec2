use Rattle.std.proofs.Common.{◌≡◌, ◌∙◌, sym, arith}
use Rattle.qw_types.proofs.ShortNumberLemmas.{below, digit_more, room}
use Rattle.qw_types.proofs.short_number.digits_from.Goals as goal

pub returns-then-not-is_ascii_digit-clause-below : goal.returns-then-not-is_ascii_digit-clause-below
returns-then-not-is_ascii_digit-clause-below c =
    below c.args.octets.now c.loop-count.count c.loop-count.number (omega (arith, c.min-end.ensures, c.loop-count-test.true)) c.loop-count.invariant.0 c.loop-count.invariant.1

pub digit_behind-number-requires-clause-small : goal.digit_behind-number-requires-clause-small
digit_behind-number-requires-clause-small c =
    room c.args.octets.now c.loop-count.count c.loop-count.number (omega (arith, c.min-end.ensures, c.loop-count-test.true)) (omega (arith, c.min-end.ensures, c.loop-count-test.true))
    c.loop-count.invariant.0 c.loop-count.invariant.1

pub loop-count-preserved : goal.loop-count-preserved
loop-count-preserved c =
    digit_more c.args.octets.now c.loop-count.count c.loop-count.number c.digit_behind-number.result (omega (arith, c.min-end.ensures, c.loop-count-test.true))
    (sym c.is_ascii_digit.ensures.value ∙ c.if-not-is_ascii_digit.false) c.digit_behind-number.ensures c.loop-count.invariant

pub returns-clause-below : goal.returns-clause-below
returns-clause-below c =
    let same : c.loop-count.count ≡ c.min-end.result = omega (arith, c.loop-count-test.false, c.loop-count.auto.count-end) in
    rw (← same) (below c.args.octets.now c.loop-count.count c.loop-count.number (omega (arith, c.min-end.ensures, same)) c.loop-count.invariant.0 c.loop-count.invariant.1)
