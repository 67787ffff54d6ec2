use Rattle.qw_pipe.proofs.Splitting.{pipelines_outcome}
use Rattle.qw_pipe.proofs.pipe_laws.outcomes_of_pipelines.Goals as goal

pub returns : goal.returns
returns c = pipelines_outcome
