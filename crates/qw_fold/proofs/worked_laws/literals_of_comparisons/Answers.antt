use Rattle.qw_scalar.specs.Evaluation.{at_row}
use Rattle.std.proofs.Common.{◌≡◌, pos, [], ◌∷◌, Result, Ok}
use Rattle.qw_types.specs.declared.code.Code.{Code}
use Rattle.qw_types.specs.declared.truth.Truth.{Truth}
use Rattle.qw_types.specs.declared.truth.Truth.TheVariants.{True, False}
use Rattle.qw_types.specs.declared.value.Val.TheVariants.{Num}
use Rattle.qw_fold.proofs.worked_laws.literals_of_comparisons.Goals as goal

pub returns-clause-other : goal.returns-clause-other
returns-clause-other c = λ h.
    let at_five : ◌≡◌ {A = Result Truth Code} (Ok True) (Ok False) = h.truth (at_row (Num (pos 500) ∷ [])) in
    cc
