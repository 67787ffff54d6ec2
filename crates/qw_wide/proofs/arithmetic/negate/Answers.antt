use Rattle.qw_wide.specs.Inner.Blocks.{opposite_block}
use Rattle.qw_wide.proofs.Operations.{opposite_converts}
use Rattle.qw_wide.proofs.arithmetic.negate.Goals as goal

pub returns-clause-block : goal.returns-clause-block
returns-clause-block c = (opposite_block c.args.free c.args.operand.local, c.in_ok-push_opposite.ensures, opposite_converts c.args.operand.local c.args.operand.most c.args.free)
