use Rattle.qw_whole.proofs.WholeOrder.{pages_same, whole_same}
use Rattle.qw_whole.proofs.whole_laws.tables_in_any_order.Goals as goal

pub returns-clause-units : goal.returns-clause-units
returns-clause-units c = λ query tables others same. whole_same tables others same query

pub returns-clause-pages : goal.returns-clause-pages
returns-clause-pages c = λ query tables others same. pages_same tables others same query
