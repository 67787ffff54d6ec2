use Rattle.std.proofs.Common.{◌≤◌, length, arith, take_all}
use Rattle.qw_types.proofs.ShortNumberLemmas.{all_of}
use Rattle.qw_types.proofs.short_number.digits_to_end.Goals as goal

pub returns-clause-count : goal.returns-clause-count
returns-clause-count c =
    let long : length c.args.text.now ≤ c.digits_from-digits.result.count = omega (arith, c.if-digits-text.false) in
    rw (all_of c.args.text.now c.digits_from-digits.result.count c.digits_from-digits.ensures.digits long).0 (omega (arith, long, c.digits_from-digits.ensures.within))

pub returns-clause-number : goal.returns-clause-number
returns-clause-number c =
    let long : length c.args.text.now ≤ c.digits_from-digits.result.count = omega (arith, c.if-digits-text.false) in
    rw (all_of c.args.text.now c.digits_from-digits.result.count c.digits_from-digits.ensures.digits long).0
    (rw (take_all c.digits_from-digits.result.count c.args.text.now long) at c.digits_from-digits.ensures.number)

pub returns-clause-rest : goal.returns-clause-rest
returns-clause-rest c =
    let long : length c.args.text.now ≤ c.digits_from-digits.result.count = omega (arith, c.if-digits-text.false) in
    (all_of c.args.text.now c.digits_from-digits.result.count c.digits_from-digits.ensures.digits long).1
