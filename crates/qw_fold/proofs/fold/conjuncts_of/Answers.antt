use Rattle.qw_fold.proofs.Lists.{next_conjunct}
use Rattle.qw_fold.proofs.fold.conjuncts_of.Goals as goal

pub loop-conjunct-preserved : goal.loop-conjunct-preserved
loop-conjunct-preserved c =
    rw c.in_ok-push.ensures.items
    (next_conjunct c.args.conjuncts.now c.loop-conjunct.made.items c.loop-conjunct.conjunct-index c.conjunct-item.result _ c.loop-conjunct-test.true c.conjunct-item.is c.loop-conjunct.invariant c.in_ok-condition.ensures)
