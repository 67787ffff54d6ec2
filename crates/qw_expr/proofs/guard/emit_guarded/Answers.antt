use Rattle.qw_scalar.specs.Tree.{condition_of}
use Rattle.qw_expr.proofs.GuardedTests.{guarded_emits}
use Rattle.qw_expr.proofs.guard.emit_guarded.Goals as goal

pub returns-clause-emits : goal.returns-clause-emits
returns-clause-emits c known strict =
    guarded_emits known (condition_of c.args.cond.now) c.args.leaves.now c.args.first c.args.rest.now c.args.emitter.now c.fresh.new.self c.begin_sure.new.self c.test_of.new.emitter c.end_sure.new.self c.in_ok-t.t c.in_ok-test.test strict c.in_ok-t.ensures.local.0
    c.in_ok-t.ensures.own c.in_ok-t.ensures.same.0 c.in_ok-t.ensures.same.1 c.in_ok-begin_sure.ensures.code c.in_ok-begin_sure.ensures.same.0 c.in_ok-begin_sure.ensures.same.1 c.in_ok-test.ensures.emits c.in_ok-end_sure.ensures.code
    c.in_ok-end_sure.ensures.same.0 c.in_ok-end_sure.ensures.same.1
