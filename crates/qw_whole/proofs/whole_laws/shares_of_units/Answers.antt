use Rattle.qw_whole.proofs.ShareLemmas.{distinct_told, units_told}
use Rattle.qw_whole.proofs.whole_laws.shares_of_units.Goals as goal

pub returns-clause-groups : goal.returns-clause-groups
returns-clause-groups c = units_told

pub returns-clause-distinct : goal.returns-clause-distinct
returns-clause-distinct c = distinct_told
