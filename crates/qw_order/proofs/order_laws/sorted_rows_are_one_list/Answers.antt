use Rattle.qw_order.proofs.KeyOrderLemmas.{key_order_total}
use Rattle.qw_order.proofs.SortedLemmas.{only, sorted_by, there}
use Rattle.qw_order.proofs.order_laws.sorted_rows_are_one_list.Goals as goal

pub returns : goal.returns
returns c = record { there = λ keys rows. (sorted_by keys rows, there keys rows); one = only; total = key_order_total }
