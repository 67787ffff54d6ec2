use Rattle.std.proofs.Common.{refl}
use Rattle.qw_typer.proofs.laws.worked_references.Goals as goal

pub returns : goal.returns
returns c = record {
  ambiguous = refl;
  qualified = refl;
  qualified_is = refl;
  only_one = refl;
  other_table = refl;
  no_entry = refl;
}
