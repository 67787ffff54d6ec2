use Rattle.qw_order.proofs.SortedLemmas.{there}
use Rattle.qw_order.proofs.worked_laws.nulls_are_least.Goals as goal

pub returns : goal.returns
returns c = record { ascending = there _ _; descending = there _ _ }
