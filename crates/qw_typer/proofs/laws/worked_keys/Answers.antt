use Rattle.std.proofs.Common.{refl}
use Rattle.std.specs.Fmt.{digits}
use Rattle.qw_typer.proofs.laws.worked_keys.Goals as goal

pub returns : goal.returns
unfolding digits
returns c = record {
  faultless = refl;
  named = refl;
  ordinals = refl;
  zero = refl;
  past_the_last = refl;
  no_result_column = refl;
  ambiguous = refl;
  star = refl;
}
