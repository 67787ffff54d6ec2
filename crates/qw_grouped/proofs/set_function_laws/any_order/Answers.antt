use Rattle.qw_grouped.proofs.FunctionLemmas.{any_order}
use Rattle.qw_grouped.proofs.set_function_laws.any_order.Goals as goal

pub returns : goal.returns
returns c = any_order
