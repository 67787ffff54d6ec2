use Rattle.std.proofs.Common.{refl}
use Rattle.std.specs.Fmt.{digits}
use Rattle.qw_generate.proofs.worked_laws.fields_of_draws.Goals as goal

pub returns : goal.returns
unfolding digits
returns c = record {
  no_price = refl;
  least_price = refl;
  greatest_price = refl;
  first_day = refl;
  last_day = refl;
  day_again = refl;
  kinds = (refl, refl, refl, refl);
}
