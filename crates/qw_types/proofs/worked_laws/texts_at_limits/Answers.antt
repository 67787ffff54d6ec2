use Rattle.std.proofs.Common.{refl}
use Rattle.std.specs.Fmt.{digits}
use Rattle.qw_types.proofs.worked_laws.texts_at_limits.Goals as goal

pub returns : goal.returns
unfolding digits
returns c = record { digits = (refl, refl); scale = (refl, refl); integers = (refl, refl); words = (refl, refl) }
