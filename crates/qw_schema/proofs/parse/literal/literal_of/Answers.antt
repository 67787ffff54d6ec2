use Rattle.std.proofs.Common.{sym, ◌∙◌}
use Rattle.qw_types.proofs.DigitLemmas.{digits_are_utf8}
use Rattle.qw_schema.proofs.parse.literal.literal_of.Goals as goal

pub value_of-requires : goal.value_of-requires
value_of-requires c = rw c.in-Ok.ensures.cases.0 (sym c.are_digits.ensures ∙ c.if-not-are_digits.false)

pub returns-in-Err : goal.returns-in-Err
returns-in-Err c = absurd (c.in-Err.ensures.cases.0 (digits_are_utf8 c.args.octets.now (sym c.are_digits.ensures ∙ c.if-not-are_digits.false)))
