use Rattle.std.proofs.Common.{sym, subst}
use Rattle.qw_scalar.specs.Expression.{is}
use Rattle.qw_types.specs.declared.truth.Truth.TheVariants.{True}
use Rattle.qw_expr.specs.Emits.{EmitsTruth}
use Rattle.qw_expr.proofs.TruthsEmitted.{is_true_emits}
use Rattle.qw_expr.proofs.truth.is_true.Goals as goal

pub returns : goal.returns
returns c known condition start now emitted =
    subst (EmitsTruth known (is condition True) start now) (sym c.sure.ensures) (is_true_emits known condition start now c.args.operand emitted)
