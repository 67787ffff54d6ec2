use Rattle.qw_pipe.proofs.Counting.{one_table}
use Rattle.qw_pipe.proofs.pipe_laws.units_of_one_table.Goals as goal

pub returns : goal.returns
returns c = one_table
