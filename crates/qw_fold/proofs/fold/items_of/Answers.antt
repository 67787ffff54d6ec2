use Rattle.qw_fold.proofs.Lists.{next_item}
use Rattle.qw_fold.proofs.fold.items_of.Goals as goal

pub loop-item-preserved : goal.loop-item-preserved
loop-item-preserved c =
    rw c.in_ok-push.ensures.items
    (next_item c.args.items.now c.loop-item.made.items c.loop-item.item-index c.item-item.result _ c.loop-item-test.true c.item-item.is c.loop-item.invariant c.in_ok-expression.ensures)
