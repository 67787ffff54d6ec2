use Rattle.qw_physical.proofs.Results.{build_raises, last_raises}
use Rattle.qw_physical.proofs.course_laws.exceptions_of_pipelines.Goals as goal

pub returns-clause-builds : goal.returns-clause-builds
returns-clause-builds c = build_raises

pub returns-clause-last : goal.returns-clause-last
returns-clause-last c = last_raises
