use Rattle.qw_low.proofs.OpenOutcomes.{low_runs}
use Rattle.qw_low.proofs.run_laws.open_runs_are_low_runs.Goals as goal

pub returns : goal.returns
returns c = low_runs
