use Rattle.qw_pipe.specs.General.{general_hashing}
use Rattle.qw_whole.proofs.PipeUnits.{rows_are, run_within, units_are}
use Rattle.qw_whole.proofs.plan_laws.units_of_pipelines.Goals as goal

pub returns-clause-all : goal.returns-clause-all
returns-clause-all c = units_are

pub returns-clause-rows : goal.returns-clause-rows
returns-clause-rows c = rows_are general_hashing

pub returns-clause-run : goal.returns-clause-run
returns-clause-run c = run_within
