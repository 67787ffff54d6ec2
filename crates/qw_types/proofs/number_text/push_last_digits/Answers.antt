use Rattle.std.proofs.Common.{rules, ◌++◌}
use Rattle.std.specs.String.{string_bytes}
use Rattle.qw_types.specs.NumberText.{last_digits}
use Rattle.qw_types.proofs.NumberTextLemmas.{digit_more}
use Rattle.qw_types.proofs.number_text.push_last_digits.Goals as goal

pub loop-done-preserved : goal.loop-done-preserved
loop-done-preserved c =
    digit_more (string_bytes c.args.text.now ++ last_digits c.args.count c.args.number) (string_bytes c.loop-done.text) (string_bytes c.push_digit.new.text)
    c.args.count c.loop-done.done c.args.number c.without_last_digits.result (search rules) c.loop-done.invariant c.without_last_digits.ensures c.in_ok-push_digit.ensures
