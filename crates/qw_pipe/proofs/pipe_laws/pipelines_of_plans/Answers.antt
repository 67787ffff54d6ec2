use Rattle.qw_pipe.proofs.Splitting.{pipelines_codes, pipelines_rows}
use Rattle.qw_pipe.proofs.pipe_laws.pipelines_of_plans.Goals as goal

pub returns-clause-rows : goal.returns-clause-rows
returns-clause-rows c = pipelines_rows

pub returns-clause-codes : goal.returns-clause-codes
returns-clause-codes c = pipelines_codes
