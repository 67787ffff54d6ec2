use Rattle.qw_plain_grouped.proofs.Sums.{least_step}
use Rattle.qw_plain_grouped.proofs.reckon.least_of.Goals as goal

pub loop-other-preserved : goal.loop-other-preserved
loop-other-preserved c =
    least_step c.args.first.now c.args.others.now c.loop-other.other-index c.other-item.result c.loop-other.best.now c.lesser-best.result.now c.loop-other-test.true c.other-item.is c.loop-other.invariant c.lesser-best.ensures
