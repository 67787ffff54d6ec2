use Rattle.qw_types.proofs.ValueOrderLemmas.{turned, only_same, same, rows, same_row}
use Rattle.qw_types.proofs.value_order_laws.order_laws.Goals as goal

pub returns : goal.returns
returns c = record { turned = turned; only_same = only_same; same = same; rows = rows; same_row = same_row }
