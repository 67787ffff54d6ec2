use Rattle.std.proofs.Common.{length, arith, ap, sym, take, take_all, drop, [], ◌∙◌}
use Rattle.std.proofs.lemmas.List.{drop_all, length-take-le}
use Rattle.qw_types.proofs.NumeralLemmas.{EndsAt, all_are_digits, digits_end, digits_more}
use Rattle.qw_types.proofs.numeral.leading_digits.Goals as goal

stop : (c : goal.Then-not-is_ascii_digit) → EndsAt c.args.octets.now (take c.loop-count.count c.args.octets.now) (drop c.loop-count.count c.args.octets.now)
stop c = digits_end c.args.octets.now c.loop-count.count 0 c.loop-count.invariant.0 c.loop-count-test.true (sym c.is_ascii_digit.ensures.value ∙ c.if-not-is_ascii_digit.true)

pub returns-then-not-is_ascii_digit-clause-count : goal.returns-then-not-is_ascii_digit-clause-count
returns-then-not-is_ascii_digit-clause-count c = rw (stop c).0 (sym (length-take-le c.loop-count.count c.args.octets.now c.loop-count.auto.count-end))

pub returns-then-not-is_ascii_digit-clause-number : goal.returns-then-not-is_ascii_digit-clause-number
returns-then-not-is_ascii_digit-clause-number c = rw (stop c).0 c.loop-count.invariant.1

pub returns-then-not-is_ascii_digit-clause-rest : goal.returns-then-not-is_ascii_digit-clause-rest
returns-then-not-is_ascii_digit-clause-rest c = sym (stop c).1

pub loop-count-preserved : goal.loop-count-preserved
loop-count-preserved c =
    digits_more c.args.octets.now c.loop-count.count c.loop-count.number c.with_digit-number.result c.loop-count-test.true
    (sym c.is_ascii_digit.ensures.value ∙ c.if-not-is_ascii_digit.false) c.with_digit-number.ensures c.loop-count.invariant

end : (c : goal.After-loop-count) → EndsAt c.args.octets.now c.args.octets.now []
end c =
    let same = take_all c.loop-count.count c.args.octets.now c.loop-count-test.false in
    all_are_digits c.args.octets.now (rw same at c.loop-count.invariant.0)

pub returns-clause-count : goal.returns-clause-count
returns-clause-count c = sym (ap length (end c).0)

pub returns-clause-number : goal.returns-clause-number
returns-clause-number c =
    let same = take_all c.loop-count.count c.args.octets.now c.loop-count-test.false in
    rw (end c).0 (rw same at c.loop-count.invariant.1)

pub returns-clause-rest : goal.returns-clause-rest
returns-clause-rest c = rw (end c).1 (drop_all (length c.args.octets.now) c.args.octets.now (omega arith))
