use Rattle.qw_order.proofs.SortedLemmas.{there}
use Rattle.qw_order.proofs.worked_laws.second_key_decides.Goals as goal

pub returns : goal.returns
returns c = there _ _
