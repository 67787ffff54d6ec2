use Rattle.std.proofs.Common.{refl}
use Rattle.qw_typer.proofs.laws.worked_product.Goals as goal

pub returns : goal.returns
returns c = record {
  faultless = refl;
  columns = refl;
  names = refl;
}
