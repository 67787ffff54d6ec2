use Rattle.std.proofs.Common.{sym, subst}
use Rattle.qw_scalar.specs.Expression.{is}
use Rattle.qw_types.specs.declared.truth.Truth.TheVariants.{Unknown}
use Rattle.qw_expr.specs.Emits.{EmitsTruth}
use Rattle.qw_expr.proofs.NullTests.{never_emits, unknown_tells, word_emits}
use Rattle.qw_expr.proofs.emitter.Emitter.is_unknown.Goals as goal

pub returns-in-Some-clause-emits : goal.returns-in-Some-clause-emits
returns-in-Some-clause-emits c known a start emitted = subst (EmitsTruth known (is a Unknown) start c.args.self.now) (sym c.sure.ensures) (word_emits known (is a Unknown) start c.args.self.now c.in-Some.n (unknown_tells known a start c.args.self.now c.args.operand _ c.in-Some.is emitted))

pub returns-in_ok-t-in-None-clause-emits : goal.returns-in_ok-t-in-None-clause-emits
returns-in_ok-t-in-None-clause-emits c known a start emitted =
    subst (EmitsTruth known (is a Unknown) start c.flag.new.self) (sym c.sure-in-None.ensures)
    (never_emits known (is a Unknown) start c.args.self.now c.flag.new.self c.in_ok-t-in-None.t (unknown_tells known a start c.args.self.now c.args.operand _ c.in-None.is emitted) c.in_ok-t-in-None.ensures.emits)
