use Rattle.qw_types.proofs.TextOrderLemmas.{same, only_same, turned, chain, prefix}
use Rattle.qw_types.proofs.text_order.order_laws.Goals as goal

pub returns : goal.returns
returns c = record { same = same; only_same = only_same; turned = turned; chain = chain; prefix = prefix }
