use Rattle.std.proofs.Common.{add-one, take_all}
use Rattle.qw_csv.proofs.PushLemmas.{none_more}
use Rattle.qw_csv.proofs.StorageLemmas.{get_is}
use Rattle.qw_csv.proofs.loading.no_values.Goals as goal

pub loop-column-preserved : goal.loop-column-preserved
loop-column-preserved c =
    let there = get_is c.args.columns.now c.loop-column.column-index c.column-item.result c.loop-column-test.true c.column-item.is in
    rw (c.in_ok-push.ensures.items, add-one) (none_more c.args.columns.now c.loop-column.column-index c.column-item.result c.loop-column.values.items c.new.result there c.loop-column.invariant
    (rw c.column_type.ensures at c.new.ensures.kept) c.new.ensures.none)

pub returns : goal.returns
returns c = rw (take_all c.loop-column.column-index c.args.columns.now c.loop-column-test.false) at c.loop-column.invariant
