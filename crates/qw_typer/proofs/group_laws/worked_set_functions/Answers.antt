use Rattle.std.proofs.Common.{refl}
use Rattle.qw_typer.proofs.group_laws.worked_set_functions.Goals as goal

pub returns : goal.returns
returns c = record {
  first = refl;
  second = refl;
  rows = refl;
  argument = refl;
  no_column = refl;
  nested_rows = refl;
  nested = refl;
  in_where = refl;
  sum_of_text = refl;
  average_of_text = refl;
  of_text = (refl, refl, refl);
  average_at_14 = refl;
  average_at_15 = refl;
  sum_at_15 = refl;
}
