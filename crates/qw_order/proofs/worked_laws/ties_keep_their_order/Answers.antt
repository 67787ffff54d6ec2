use Rattle.qw_order.proofs.SortedLemmas.{only, there}
use Rattle.qw_order.proofs.worked_laws.ties_keep_their_order.Goals as goal

pub returns : goal.returns
returns c = record { ascending = there _ _; descending = there _ _; turned = λ h. let same = only _ _ _ _ h (there _ _) in absurd cc }
