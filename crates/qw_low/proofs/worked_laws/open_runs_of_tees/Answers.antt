use Rattle.qw_module.specs.declared.instruction.ValType.TheVariants.{I32}
use Rattle.qw_module.specs.declared.instruction.Binary.TheVariants.{Sub}
use Rattle.qw_low.specs.Syntax.{local, binop, seq, assign, while, request}
use Rattle.qw_low.specs.Worked.{i32, state, nearly_full, world}
use Rattle.qw_low.proofs.OpenOutcomes.{ends_on_path}
use Rattle.qw_low.proofs.worked_laws.open_runs_of_tees.Goals as goal

pub returns-clause-teed : goal.returns-clause-teed
returns-clause-teed c = λ store memory locals imported stands are. ends_on_path 128 0 (seq (assign 2 (i32 5)) (assign 1 (local 2))) state store imported world memory locals stands are tt

pub returns-clause-countdown : goal.returns-clause-countdown
returns-clause-countdown c = λ store memory locals imported stands are.
    ends_on_path 128 3 (while (local 2) (assign 2 (binop I32 Sub (local 2) (i32 1)))) state store imported world memory locals stands are tt

pub returns-clause-another : goal.returns-clause-another
returns-clause-another c = λ store memory locals imported stands are. ends_on_path 128 0 (seq (assign 2 (i32 5)) (assign 1 (local 0))) state store imported world memory locals stands are tt

pub returns-clause-requested : goal.returns-clause-requested
returns-clause-requested c = λ store w memory locals imported stands are.
    ends_on_path 200 0 (seq (request (i32 1) 2) (assign 1 (local 2))) nearly_full store imported w memory locals stands are tt
