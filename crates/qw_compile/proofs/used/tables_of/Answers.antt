use Rattle.qw_compile.proofs.UsedSteps.{next_tables}
use Rattle.qw_compile.proofs.used.tables_of.Goals as goal

pub loop-source-preserved : goal.loop-source-preserved
loop-source-preserved c =
    next_tables c.args.sources.now c.loop-source.source-index c.source-item.result c.loop-source.tables.items c.push.new.self.items c.add_joined.new.tables.items c.deref.result.now
    c.loop-source-test.true c.source-item.is c.loop-source.invariant c.in_ok-push.ensures.items c.deref.ensures.value c.in_ok-add_joined.ensures
