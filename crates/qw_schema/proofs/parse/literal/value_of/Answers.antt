use Rattle.qw_schema.proofs.LiteralLemmas.{no_literal}
use Rattle.qw_schema.proofs.parse.literal.value_of.Goals as goal

pub returns-in_default : goal.returns-in_default
returns-in_default c = no_literal c.args.digits.now c.parse.result c.in_default.field-0 c.requires c.parse.ensures.value.0 c.in_default.is
