use Rattle.std.proofs.Common.{sym, ◌∙◌}
use Rattle.qw_types.proofs.DigitLemmas.{digits_are_utf8}
use Rattle.qw_typer.proofs.key.ordinal_position.Goals as goal

pub digits_position-requires : goal.digits_position-requires
digits_position-requires c = rw c.in-Ok.ensures.cases.0 (sym c.are_digits.ensures ∙ c.if-not-are_digits.false)

pub returns-in-Err : goal.returns-in-Err
returns-in-Err c = absurd (c.in-Err.ensures.cases.0 (digits_are_utf8 c.args.octets.now (sym c.are_digits.ensures ∙ c.if-not-are_digits.false)))
