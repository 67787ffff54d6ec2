use Rattle.std.proofs.Common.{rules, ◌<◌, ◌^◌}
use Rattle.qw_typer.proofs.KeyLemmas.{no_position}
use Rattle.qw_typer.proofs.key.digits_position.Goals as goal

pub returns-in_default : goal.returns-in_default
returns-in_default c =
    let fits : c.args.columns < 2 ^ 64 = search rules in
    no_position c.args.columns c.args.digits.now c.parse.result c.in_default.field-0 fits c.requires c.parse.ensures.value.0 c.in_default.is
