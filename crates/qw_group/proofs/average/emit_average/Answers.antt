use Rattle.qw_group.specs.Inner.WideBlocks.{averaging_block}
use Rattle.qw_group.proofs.SumClauses.{averages}
use Rattle.qw_group.proofs.average.emit_average.Goals as goal

pub returns : goal.returns
returns c = (averaging_block c.args.flag c.args.count, c.in_ok-push_average.ensures, averages c.args.flag c.args.count)
