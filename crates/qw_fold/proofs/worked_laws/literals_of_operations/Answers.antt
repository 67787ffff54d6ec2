use Rattle.qw_scalar.specs.Evaluation.{at_row}
use Rattle.std.proofs.Common.{◌≡◌, pos, [], Result, Ok, Err}
use Rattle.qw_types.specs.declared.code.Code.{Code}
use Rattle.qw_types.specs.declared.code.Code.TheVariants.{DivZero}
use Rattle.qw_types.specs.declared.value.Val.{Val}
use Rattle.qw_types.specs.declared.value.Val.TheVariants.{Num}
use Rattle.qw_fold.proofs.worked_laws.literals_of_operations.Goals as goal

pub returns-clause-other : goal.returns-clause-other
returns-clause-other c = λ h.
    let seven : ◌≡◌ {A = Result Val Code} (Ok (Num (pos 7))) (Ok (Num (pos 8))) = h.value (at_row []) in
    cc

pub returns-clause-raises : goal.returns-clause-raises
returns-clause-raises c = λ v s h.
    let raised : ◌≡◌ {A = Result Val Code} (Err DivZero) (Ok (Num v)) = h.value (at_row []) in
    cc
