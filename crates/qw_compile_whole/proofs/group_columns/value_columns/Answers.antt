use Rattle.qw_compile_whole.proofs.ColumnSteps.{values_next}
use Rattle.qw_compile_whole.proofs.group_columns.value_columns.Goals as goal

pub loop-index-preserved : goal.loop-index-preserved
loop-index-preserved c =
    values_next c.args.first c.args.functions.now c.loop-index.index c.index-functions-index.result c.value_column.result c.loop-index.made.items c.push.new.self.items c.loop-index-test.true c.index-functions-index.is c.loop-index.invariant c.value_column.ensures
    c.in_ok-push.ensures.items
