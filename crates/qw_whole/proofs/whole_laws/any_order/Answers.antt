use Rattle.qw_whole.proofs.PermutedTables.{distinct_octets_permuted, distinct_permuted, groups_permuted, octets_permuted}
use Rattle.qw_whole.proofs.whole_laws.any_order.Goals as goal

pub returns-clause-groups : goal.returns-clause-groups
returns-clause-groups c = groups_permuted

pub returns-clause-group_octets : goal.returns-clause-group_octets
returns-clause-group_octets c = octets_permuted

pub returns-clause-distinct : goal.returns-clause-distinct
returns-clause-distinct c = distinct_permuted

pub returns-clause-distinct_octets : goal.returns-clause-distinct_octets
returns-clause-distinct_octets c = distinct_octets_permuted
