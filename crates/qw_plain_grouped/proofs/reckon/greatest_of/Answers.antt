use Rattle.qw_plain_grouped.proofs.Sums.{greatest_step}
use Rattle.qw_plain_grouped.proofs.reckon.greatest_of.Goals as goal

pub loop-other-preserved : goal.loop-other-preserved
loop-other-preserved c =
    greatest_step c.args.first.now c.args.others.now c.loop-other.other-index c.other-item.result c.loop-other.best.now c.greater-best.result.now c.loop-other-test.true c.other-item.is c.loop-other.invariant c.greater-best.ensures
