use Rattle.std.proofs.Common.{sym, subst}
use Rattle.qw_scalar.specs.declared.expression.Predicate.TheVariants.{IsNull}
use Rattle.qw_scalar.specs.Expression.{predicate}
use Rattle.qw_expr.specs.Emits.{EmitsTruth}
use Rattle.qw_expr.proofs.NullTests.{never_emits, null_alone, null_tells, word_emits}
use Rattle.qw_expr.proofs.emitter.Emitter.predicate.Goals as goal

pub returns-in-Some-clause-emits : goal.returns-in-Some-clause-emits
returns-in-Some-clause-emits c known a start emitted =
    subst (λ p. EmitsTruth known (predicate p a) start c.args.self.now c.sure.result) (null_alone c.args.wanted)
    (subst (EmitsTruth known (predicate IsNull a) start c.args.self.now) (sym c.sure.ensures) (word_emits known (predicate IsNull a) start c.args.self.now c.in-Some.n (null_tells known a start c.args.self.now c.args.operand _ c.in-Some.is emitted)))

pub returns-in_ok-t-in-None-clause-emits : goal.returns-in_ok-t-in-None-clause-emits
returns-in_ok-t-in-None-clause-emits c known a start emitted =
    subst (λ p. EmitsTruth known (predicate p a) start c.flag.new.self c.sure-in-None.result) (null_alone c.args.wanted)
    (subst (EmitsTruth known (predicate IsNull a) start c.flag.new.self) (sym c.sure-in-None.ensures)
    (never_emits known (predicate IsNull a) start c.args.self.now c.flag.new.self c.in_ok-t-in-None.t (null_tells known a start c.args.self.now c.args.operand _ c.in-None.is emitted) c.in_ok-t-in-None.ensures.emits))
