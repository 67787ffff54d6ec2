use Rattle.std.proofs.Common.{rules, arith}
use Rattle.qw_types.proofs.NumberTextLemmas.{none_left, power_positive}
use Rattle.qw_types.proofs.number_text.without_last_digits.Goals as goal

pub returns-then-count-gt-DIGITS_OF_A_POWER : goal.returns-then-count-gt-DIGITS_OF_A_POWER
returns-then-count-gt-DIGITS_OF_A_POWER c = none_left c.args.number c.args.count (search rules) (search rules)

pub nonzero_div-result : goal.nonzero_div-result
nonzero_div-result c = grind (arith, power_positive)
