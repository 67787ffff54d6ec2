use Rattle.qw_algebra.specs.Written.{written}
use Rattle.qw_rewrite.proofs.Once.{all_entries, all_once}
use Rattle.qw_rewrite.proofs.place_laws.nothing_is_lost.Goals as goal

pub returns-clause-conjuncts : goal.returns-clause-conjuncts
returns-clause-conjuncts c = λ query node. all_once (written query) node

pub returns-clause-entries : goal.returns-clause-entries
returns-clause-entries c = λ query node. all_entries (written query) node
