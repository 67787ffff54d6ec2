use Rattle.qw_physical.proofs.Scaled.{query_scaled}
use Rattle.qw_physical.proofs.bound_laws.scales_of_queries.Goals as goal

pub returns : goal.returns
returns c = query_scaled
