use Rattle.std.proofs.Common.{sym, subst}
use Rattle.qw_scalar.specs.Expression.{is}
use Rattle.qw_types.specs.declared.truth.Truth.TheVariants.{False}
use Rattle.qw_expr.specs.Emits.{EmitsTruth}
use Rattle.qw_expr.proofs.TruthsEmitted.{is_false_emits}
use Rattle.qw_expr.proofs.emitter.Emitter.is_false.Goals as goal

pub returns-clause-emits : goal.returns-clause-emits
returns-clause-emits c known condition start emitted =
    subst (EmitsTruth known (is condition False) start c.test_false.new.self) (sym c.sure.ensures) (is_false_emits known condition start c.args.self.now c.test_false.new.self c.args.operand c.in_ok-t.t emitted c.in_ok-t.ensures.emits)
