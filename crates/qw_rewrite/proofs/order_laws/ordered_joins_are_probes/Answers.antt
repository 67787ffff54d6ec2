use Rattle.qw_rewrite.proofs.OrderProbes.{probes_of_query}
use Rattle.qw_rewrite.proofs.order_laws.ordered_joins_are_probes.Goals as goal

pub returns : goal.returns
returns c = probes_of_query
