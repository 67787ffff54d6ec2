use Rattle.std.proofs.Common.{sym, ◌∙◌}
use Rattle.qw_types.proofs.DigitLemmas.{digits_are_utf8}
use Rattle.qw_typer.proofs.number.value_of.Goals as goal

pub parsed-requires : goal.parsed-requires
parsed-requires c = rw c.in-Ok.ensures.cases.0 (sym c.are_digits.ensures ∙ c.if-not-are_digits.false)

pub returns-in-Err : goal.returns-in-Err
returns-in-Err c = absurd (c.in-Err.ensures.cases.0 (digits_are_utf8 c.args.octets.now (sym c.are_digits.ensures ∙ c.if-not-are_digits.false)))
