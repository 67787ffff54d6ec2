use Rattle.qw_expr.specs.Bindings.{known_of}
use Rattle.qw_compile.proofs.LiteralSteps.{next_constant}
use Rattle.qw_compile.proofs.bindings.bind_constants.Goals as goal

pub loop-constant-preserved : goal.loop-constant-preserved
loop-constant-preserved c =
    next_constant c.args.constants.now c.loop-constant.constant-index _ _ c.loop-constant.made.items c.push.new.self.items (known_of c.args.made.now.items) c.loop-constant-test.true c.leaf_of.ensures c.operand.ensures c.loop-constant.invariant c.in_ok-push.ensures.items
