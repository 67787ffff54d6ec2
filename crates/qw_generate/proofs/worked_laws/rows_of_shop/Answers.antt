use Rattle.std.proofs.Common.{refl}
use Rattle.std.specs.Fmt.{digits}
use Rattle.qw_generate.proofs.worked_laws.rows_of_shop.Goals as goal

pub returns : goal.returns
unfolding digits
returns c = record { first = refl; twelfth = refl; last = refl; no_city = refl }
