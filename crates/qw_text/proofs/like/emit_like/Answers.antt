use Rattle.std.proofs.Common.{arith}
use Rattle.qw_low.proofs.Lengths.{added-most}
use Rattle.qw_text.specs.Inner.LikeBlocks.{like_block}
use Rattle.qw_text.proofs.LikeRuns.{like_likes}
use Rattle.qw_text.proofs.like.emit_like.Goals as goal

pub returns-clause-block : goal.returns-clause-block
returns-clause-block c = (
  like_block c.args.text.value c.args.text.length c.args.pattern.value c.args.pattern.length c.args.free,
  c.in_ok-push_like.ensures,
  like_likes c.args.text c.args.pattern c.args.free c.requires.text.0 c.requires.text.1 c.requires.pattern.0 c.requires.pattern.1,
)

pub returns-clause-short : goal.returns-clause-short
returns-clause-short c =
    added-most 168 (like_block c.args.text.value c.args.text.length c.args.pattern.value c.args.pattern.length c.args.free) c.args.block.now.code.items c.push_like.new.block.code.items c.in_ok-push_like.ensures (omega arith)
