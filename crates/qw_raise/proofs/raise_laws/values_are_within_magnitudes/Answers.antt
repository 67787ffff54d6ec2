use Rattle.qw_raise.proofs.MagnitudeLemmas.{within_magnitude}
use Rattle.qw_raise.proofs.raise_laws.values_are_within_magnitudes.Goals as goal

pub returns : goal.returns
returns c = within_magnitude
