use Rattle.qw_physical.proofs.QueryNulls.{query_builds_nulls, query_last_nulls}
use Rattle.qw_physical.proofs.course_laws.nulls_of_left_joins.Goals as goal

pub returns-clause-builds : goal.returns-clause-builds
returns-clause-builds c = query_builds_nulls

pub returns-clause-last : goal.returns-clause-last
returns-clause-last c = query_last_nulls
