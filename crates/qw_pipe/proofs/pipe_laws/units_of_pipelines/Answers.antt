use Rattle.qw_pipe.proofs.Counting.{pipelines_units_are}
use Rattle.qw_pipe.proofs.pipe_laws.units_of_pipelines.Goals as goal

pub returns : goal.returns
returns c = pipelines_units_are
