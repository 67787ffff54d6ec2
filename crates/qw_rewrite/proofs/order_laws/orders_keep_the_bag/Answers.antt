use Rattle.qw_rewrite.proofs.OrderOfQuery.{order_of_query}
use Rattle.qw_rewrite.proofs.order_laws.orders_keep_the_bag.Goals as goal

pub returns-clause-rows : goal.returns-clause-rows
returns-clause-rows c = λ query tables counts node whole of sized placed. (order_of_query query tables counts node whole of sized placed).rows

pub returns-clause-codes : goal.returns-clause-codes
returns-clause-codes c = λ query tables counts node whole of sized placed. (order_of_query query tables counts node whole of sized placed).codes
