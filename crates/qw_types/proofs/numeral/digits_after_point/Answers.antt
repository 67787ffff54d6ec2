use Rattle.std.proofs.Common.{◌∙◌, length, ap, sym, take_all}
use Rattle.std.proofs.lemmas.List.{length-take-le}
use Rattle.qw_types.proofs.NumeralLemmas.{all_are_digits, digits_end, fraction_before, fraction_past, rest_is}
use Rattle.qw_types.proofs.numeral.digits_after_point.Goals as goal
use Rattle.qw_types.proofs.numeral.digits_after_point.Goals.{then-count-scale, else-count-scale+then-fine, else-count-scale+else-fine}

pub returns-then-not-is_ascii_digit-clause-count : goal.returns-then-not-is_ascii_digit-clause-count
returns-then-not-is_ascii_digit-clause-count c = rw (digits_end c.args.octets.now c.loop-count.count 0 c.loop-count.invariant.digits c.loop-count-test.true (sym c.is_ascii_digit.ensures.value ∙ c.if-not-is_ascii_digit.true)).0 (sym (length-take-le c.loop-count.count c.args.octets.now c.loop-count.auto.count-end))

pub returns-then-not-is_ascii_digit-clause-number : goal.returns-then-not-is_ascii_digit-clause-number
returns-then-not-is_ascii_digit-clause-number c = rw (digits_end c.args.octets.now c.loop-count.count 0 c.loop-count.invariant.digits c.loop-count-test.true (sym c.is_ascii_digit.ensures.value ∙ c.if-not-is_ascii_digit.true)).0 c.loop-count.invariant.number

pub returns-then-not-is_ascii_digit-clause-fine : goal.returns-then-not-is_ascii_digit-clause-fine
returns-then-not-is_ascii_digit-clause-fine c = rw (digits_end c.args.octets.now c.loop-count.count 0 c.loop-count.invariant.digits c.loop-count-test.true (sym c.is_ascii_digit.ensures.value ∙ c.if-not-is_ascii_digit.true)).0 c.loop-count.invariant.fine

pub returns-then-not-is_ascii_digit-clause-rest : goal.returns-then-not-is_ascii_digit-clause-rest
returns-then-not-is_ascii_digit-clause-rest c = rest_is c.args.octets.now c.loop-count.count ∙ sym (digits_end c.args.octets.now c.loop-count.count 0 c.loop-count.invariant.digits c.loop-count-test.true (sym c.is_ascii_digit.ensures.value ∙ c.if-not-is_ascii_digit.true)).1

pub loop-count-preserved : goal.loop-count-preserved
loop-count-preserved c =
    let digit = sym c.is_ascii_digit.ensures.value ∙ c.if-not-is_ascii_digit.false in
    elim c.if-count-scale.branch [
      | then-count-scale w ↦ rw w.fine-is (fraction_before c.args.whole c.args.scale c.args.octets.now c.loop-count.count c.loop-count.number c.if-count-scale.number c.loop-count.fine
          c.loop-count-test.true w.if-count-scale.true digit (rw w.number-is w.with_digit-number.ensures) c.loop-count.invariant)
      | else-count-scale+then-fine w ↦ rw w.number-is (fraction_past c.args.whole c.args.scale c.args.octets.now c.loop-count.count c.loop-count.number c.loop-count.fine c.if-count-scale.fine
          c.loop-count-test.true w.if-count-scale.false digit (rw w.if-fine.true w.fine-is) c.loop-count.invariant)
      | else-count-scale+else-fine w ↦ rw w.number-is (fraction_past c.args.whole c.args.scale c.args.octets.now c.loop-count.count c.loop-count.number c.loop-count.fine c.if-count-scale.fine
          c.loop-count-test.true w.if-count-scale.false digit (rw w.if-fine.false (w.fine-is ∙ w.if-fine.false)) c.loop-count.invariant)
    ]

pub returns-clause-count : goal.returns-clause-count
returns-clause-count c = sym (ap length (all_are_digits c.args.octets.now (rw (take_all c.loop-count.count c.args.octets.now c.loop-count-test.false) at c.loop-count.invariant.digits)).0)

pub returns-clause-number : goal.returns-clause-number
returns-clause-number c =
    let same = take_all c.loop-count.count c.args.octets.now c.loop-count-test.false in
    rw (all_are_digits c.args.octets.now (rw (take_all c.loop-count.count c.args.octets.now c.loop-count-test.false) at c.loop-count.invariant.digits)).0 (rw same at c.loop-count.invariant.number)

pub returns-clause-fine : goal.returns-clause-fine
returns-clause-fine c =
    let same = take_all c.loop-count.count c.args.octets.now c.loop-count-test.false in
    rw (all_are_digits c.args.octets.now (rw (take_all c.loop-count.count c.args.octets.now c.loop-count-test.false) at c.loop-count.invariant.digits)).0 (rw same at c.loop-count.invariant.fine)

pub returns-clause-rest : goal.returns-clause-rest
returns-clause-rest c = sym (all_are_digits c.args.octets.now (rw (take_all c.loop-count.count c.args.octets.now c.loop-count-test.false) at c.loop-count.invariant.digits)).1
