use Rattle.std.proofs.Common.{◌≡◌, ◌∙◌, [], drop, arith}
use Rattle.qw_types.specs.Numeral.{leading_digits}
use Rattle.qw_types.proofs.NumeralLemmas.{rest_is}
use Rattle.qw_types.proofs.ShortNumberLemmas.{shown, stops}
use Rattle.qw_types.proofs.short_number.short_magnitude.Goals as goal

none : (c : goal.After-at_scale) → leading_digits (drop c.few_digits-whole.result.count c.args.octets.now) ≡ []
none c = rw (rest_is c.args.octets.now c.few_digits-whole.result.count) at c.in_ok-fraction.ensures.stop

pub returns-clause-rest : goal.returns-clause-rest
returns-clause-rest c =
    let (leading, after) = stops c.args.octets.now c.few_digits-whole.result.count c.few_digits-whole.ensures.digits (none c) in
    rw after (rw (rest_is c.args.octets.now c.few_digits-whole.result.count) at c.in_ok-fraction.ensures.rest)

pub returns-clause-few : goal.returns-clause-few
returns-clause-few c =
    let (leading, after) = stops c.args.octets.now c.few_digits-whole.result.count c.few_digits-whole.ensures.digits (none c) in
    let count = rw (rest_is c.args.octets.now c.few_digits-whole.result.count) at c.in_ok-fraction.ensures.count in
    rw after (omega (arith, count, c.in_ok-fraction.ensures.few))

pub returns-clause-value : goal.returns-clause-value
returns-clause-value c =
    c.at_scale.ensures.value
    ∙ shown c.args.octets.now c.few_digits-whole.result.count c.few_digits-whole.result.number c.in_ok-fraction.fraction.number c.in_ok-fraction.fraction.count c.args.scale
    c.few_digits-whole.ensures.digits c.few_digits-whole.ensures.number (none c)
    (rw (rest_is c.args.octets.now c.few_digits-whole.result.count) at c.in_ok-fraction.ensures.count)
    (rw (rest_is c.args.octets.now c.few_digits-whole.result.count) at c.in_ok-fraction.ensures.number) c.in_ok-fraction.ensures.few
