use Rattle.qw_expr.specs.Bindings.{known_of}
use Rattle.qw_compile.proofs.LiteralSteps.{next_binding}
use Rattle.qw_compile.proofs.bindings.bind_columns.Goals as goal

pub loop-reader-preserved : goal.loop-reader-preserved
loop-reader-preserved c =
    next_binding c.args.readers.now c.loop-reader.reader-index _ c.operand.result c.loop-reader.made.items c.push.new.self.items (known_of c.args.made.now.items) c.loop-reader-test.true c.operand.ensures c.loop-reader.invariant c.in_ok-push.ensures.items
