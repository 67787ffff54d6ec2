use Rattle.std.proofs.Common.{take}
use Rattle.qw_fold.specs.Inner.Made.{ItemsFold}
use Rattle.qw_fold.proofs.fold.items_of.Given as goal

abbrev pub invariant-loop-item : goal.invariant-loop-item
invariant-loop-item l = ItemsFold (take l.item-index l.items) l.made.items
