use Rattle.qw_low.specs.Syntax.{local, skip, conditional, raise}
use Rattle.qw_low.specs.Worked.{state, world}
use Rattle.qw_low.proofs.OpenOutcomes.{ends_on_path}
use Rattle.qw_low.proofs.worked_laws.open_runs_of_a_choice.Goals as goal

pub returns : goal.returns
returns c = λ store memory locals imported stands are. ends_on_path 128 0 (conditional (local 0) (raise 1) skip) state store imported world memory locals stands are tt
