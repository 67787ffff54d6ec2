use Rattle.std.proofs.Common.{◌≡◌, ◌++◌, drop}
use Rattle.qw_low.specs.Steps.{steps_of}
use Rattle.qw_read.specs.Inner.ConstantBlocks.{constants_block}
use Rattle.qw_read.proofs.constant.emit_constants.Given as goal

abbrev pub invariant-loop-constant : goal.invariant-loop-constant
invariant-loop-constant l = l.block.code.items ++ steps_of (constants_block (drop l.constant-index l.constants)) ≡ l.initial.block.code.items ++ steps_of (constants_block l.constants)
