use Rattle.qw_typer.proofs.LiteralLemmas.{no_value}
use Rattle.qw_typer.proofs.number.parsed.Goals as goal

pub returns-in_default : goal.returns-in_default
returns-in_default c = no_value c.args.digits.now c.parse.result c.in_default.field-0 c.requires c.parse.ensures.value.0 c.in_default.is
