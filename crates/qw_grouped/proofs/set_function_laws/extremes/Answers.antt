use Rattle.qw_grouped.specs.SetFunctions.{not_null}
use Rattle.qw_grouped.proofs.Extremes.{greatest_is_greatest, least_is_least}
use Rattle.qw_grouped.proofs.set_function_laws.extremes.Goals as goal

pub returns : goal.returns
returns c = record { least = λ values. least_is_least (not_null values); greatest = λ values. greatest_is_greatest (not_null values) }
