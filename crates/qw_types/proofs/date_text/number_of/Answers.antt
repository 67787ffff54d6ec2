use Rattle.std.proofs.Common.{arith, inl, inr}
use Rattle.std.specs.Char.{is_ascii_digit}
use Rattle.std.specs.List.{list_all}
use Rattle.std.proofs.lemmas.Bool.{cases_Bool}
use Rattle.qw_types.proofs.DateLemmas.{all_leading, leading_all, short_number}
use Rattle.qw_types.proofs.date_text.number_of.Goals as goal

pub overflow_cast-result : goal.overflow_cast-result
overflow_cast-result c =
    let all = leading_all c.args.digits.now (omega (arith, c.leading_digits-leading.ensures.count, c.if-leading-digits.true)) in
    omega (arith, (short_number c.args.digits.now c.leading_digits-leading.result.number c.requires all c.leading_digits-leading.ensures.number).2)

pub returns-then-leading-digits : goal.returns-then-leading-digits
returns-then-leading-digits c =
    let all = leading_all c.args.digits.now (omega (arith, c.leading_digits-leading.ensures.count, c.if-leading-digits.true)) in
    let (is, few, _) = short_number c.args.digits.now c.leading_digits-leading.result.number c.requires all c.leading_digits-leading.ensures.number in
    (all, is, few)

pub returns-else-leading-digits : goal.returns-else-leading-digits
returns-else-leading-digits c = elim (cases_Bool (list_all is_ascii_digit c.args.digits.now)) [
  | inl all ↦ absurd (c.if-leading-digits.false (rw (all_leading c.args.digits.now all) at c.leading_digits-leading.ensures.count))
  | inr some ↦ some
]
