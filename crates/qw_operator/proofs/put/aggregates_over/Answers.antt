use Rattle.qw_operator.proofs.FieldParts.{over_more}
use Rattle.qw_operator.proofs.put.aggregates_over.Goals as goal

pub loop-index-preserved : goal.loop-index-preserved
loop-index-preserved c = over_more c.args.functions.now c.args.arguments.now c.loop-index.index _ _ c.loop-index.made.items c.push.new.self.items c.loop-index-test.true c.requires c.loop-index.invariant c.in_ok-push.ensures.items
