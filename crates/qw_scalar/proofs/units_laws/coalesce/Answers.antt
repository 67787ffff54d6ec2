use Rattle.qw_scalar.proofs.UnitsLemmas.{coalesce_units, nested_units}
use Rattle.qw_scalar.proofs.units_laws.coalesce.Goals as goal

pub returns : goal.returns
returns c = record { once = coalesce_units; nested = nested_units; deep = nested_units 31 }
