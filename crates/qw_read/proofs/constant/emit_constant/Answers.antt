use Rattle.qw_read.specs.Inner.ConstantBlocks.{constant_block}
use Rattle.qw_read.proofs.ConstantRuns.{constant_sets}
use Rattle.qw_read.proofs.constant.emit_constant.Goals as goal

pub returns : goal.returns
returns c = (constant_block c.args.constant, c.in_ok-push_constant.ensures, constant_sets c.args.constant)
