use Rattle.std.proofs.Common.{refl}
use Rattle.std.specs.Fmt.{digits}
use Rattle.qw_types.proofs.worked_laws.texts_of_numbers.Goals as goal

pub returns : goal.returns
unfolding digits
returns c = record { zero = (refl, refl); below_one = (refl, refl); negative = (refl, refl); places = (refl, refl, refl) }
