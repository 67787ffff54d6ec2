use Rattle.qw_compile_whole.proofs.DistinctColumns.{column_next}
use Rattle.qw_compile_whole.proofs.distinct_columns.key_columns.Goals as goal

pub loop-number-preserved : goal.loop-number-preserved
loop-number-preserved c =
    column_next c.args.items.now c.loop-number.number c.index-items-number.result c.key_column.result c.loop-number.made.items c.push.new.self.items c.loop-number-test.true c.index-items-number.is c.loop-number.invariant c.key_column.ensures c.in_ok-push.ensures.items
