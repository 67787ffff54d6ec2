use Rattle.std.proofs.Common.{◌++◌}
use Rattle.qw_low.specs.Steps.{steps_of}
use Rattle.qw_read.specs.Inner.ConstantBlocks.{constant_block, constants_block}
use Rattle.qw_read.proofs.ConstantRuns.{constants_set}
use Rattle.qw_read.proofs.Several.{all_steps, next_steps}
use Rattle.qw_read.proofs.constant.emit_constants.Goals as goal

pub loop-constant-preserved : goal.loop-constant-preserved
loop-constant-preserved c =
    next_steps constant_block c.args.constants.now c.loop-constant.constant-index _ (c.args.block.now.code.items ++ steps_of (constants_block c.args.constants.now)) c.loop-constant.block.code.items c.push_constant.new.block.code.items
    c.loop-constant-test.true c.loop-constant.invariant c.in_ok-push_constant.ensures

pub returns : goal.returns
returns c = (
  constants_block c.args.constants.now,
  all_steps constant_block c.args.constants.now c.loop-constant.constant-index (c.args.block.now.code.items ++ steps_of (constants_block c.args.constants.now)) c.loop-constant.block.code.items c.loop-constant-test.false c.loop-constant.invariant,
  constants_set c.args.constants.now,
)
