use Rattle.std.proofs.Common.{◌-◌, sym, ◌∙◌}
use Rattle.std.specs.Str.Parse.{digits_value}
use Rattle.qw_typer.specs.declared.refusal.Token.TheVariants.{Literal}
use Rattle.qw_typer.specs.Keys.{is_ordinal}
use Rattle.qw_typer.proofs.KeyLemmas.{ordinal_given, ordinal_refused}
use Rattle.qw_typer.proofs.key.by_ordinal.Goals as goal

pub returns-in-Some : goal.returns-in-Some
returns-in-Some c = ordinal_given (is_ordinal c.args.columns c.args.digits.now) (digits_value 10 c.args.digits.now - 1) c.in-Some.position c.args.digits.now (sym c.in-Some.is ∙ c.ordinal_position.ensures)

pub returns-in-None : goal.returns-in-None
returns-in-None c = ordinal_refused (is_ordinal c.args.columns c.args.digits.now) (digits_value 10 c.args.digits.now - 1) (Literal c.args.digits) (sym c.in-None.is ∙ c.ordinal_position.ensures)
