use Rattle.std.proofs.Common.{refl}
use Rattle.qw_typer.proofs.pattern_laws.worked_patterns.Goals as goal

pub returns : goal.returns
returns c = record {
  faultless = refl;
  meant = refl;
  number = refl;
  column = refl;
}
