use Rattle.qw_typer.specs.declared.refusal.Token.TheVariants.{Name}
use Rattle.qw_typer.proofs.KeyLemmas.{nothing_refused, several_refused}
use Rattle.qw_typer.proofs.key.only.Goals as goal

pub returns-in-Nothing : goal.returns-in-Nothing
returns-in-Nothing c = λ positions is. nothing_refused (Name c.args.name) positions (rw c.in-Nothing.is at is)

pub returns-in-Several : goal.returns-in-Several
returns-in-Several c = λ positions is. several_refused (Name c.args.name) positions (rw c.in-Several.is at is)
