use Rattle.std.proofs.Common.{◌+◌}
use Rattle.qw_low.specs.Steps.{steps_of}
use Rattle.qw_low.proofs.Appended.{three}
use Rattle.qw_text.specs.Inner.LikeBlocks.{load_small, taken_block, on_block}
use Rattle.qw_text.proofs.like.push_take.Goals as goal

pub returns : goal.returns
returns c =
    three c.args.block.now.code.items c.push_octet.new.block.code.items c.push_taken.new.block.code.items c.push_on.new.block.code.items
    (steps_of (load_small (c.args.free + 6) c.args.address (c.args.free + 1))) (steps_of (taken_block c.args.free)) (steps_of (on_block c.args.free))
    c.in_ok-push_octet.ensures c.in_ok-push_taken.ensures c.in_ok-push_on.ensures
