use Rattle.qw_types.proofs.ValueLemmas.{order_by_bringing}
use Rattle.qw_types.proofs.value_laws.comparison_by_bringing.Goals as goal

pub returns : goal.returns
returns c = order_by_bringing
