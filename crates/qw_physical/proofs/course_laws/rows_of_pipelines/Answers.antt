use Rattle.qw_physical.proofs.Results.{last_count, side_is}
use Rattle.qw_physical.proofs.course_laws.rows_of_pipelines.Goals as goal

pub returns-clause-builds : goal.returns-clause-builds
returns-clause-builds c = side_is

pub returns-clause-last : goal.returns-clause-last
returns-clause-last c = last_count
