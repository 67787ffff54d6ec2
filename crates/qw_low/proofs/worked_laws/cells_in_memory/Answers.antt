use Rattle.std.proofs.Common.{refl, arith}
use Rattle.qw_linear.specs.Memory.{number_at}
use Rattle.qw_low.proofs.worked_laws.cells_in_memory.Goals as goal

pub returns-clause-there : goal.returns-clause-there
unfolding number_at
returns-clause-there c = record { area = record { start = 1; size = 4 }; is = refl; inside = omega arith; means = refl }
