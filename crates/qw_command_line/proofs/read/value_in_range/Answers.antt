use Rattle.std.proofs.Common.{sym, ◌∙◌}
use Rattle.qw_command_line.proofs.ReadLemmas.{none_in_range}
use Rattle.qw_command_line.proofs.read.value_in_range.Goals as goal

pub returns-in_default : goal.returns-in_default
returns-in_default c = none_in_range c.args.number c.args.word.now c.parse.result c.in_default.field-0 (sym (rw c.as_bytes.ensures.value at c.are_digits.ensures) ∙ c.if-not-are_digits.false) c.parse.ensures.value.0 c.in_default.is
