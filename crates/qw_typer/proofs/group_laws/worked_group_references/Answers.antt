use Rattle.std.proofs.Common.{refl}
use Rattle.qw_typer.proofs.group_laws.worked_group_references.Goals as goal

pub returns : goal.returns
returns c = record {
  first = refl;
  second = refl;
  grouped = refl;
  not_grouped = refl;
  qualified = refl;
  operand = refl;
  no_column = refl;
  no_entry = refl;
  from_is = refl;
  from = refl;
}
