use Rattle.std.proofs.Common.{arith}
use Rattle.qw_text.specs.Inner.Blocks.{equality_block}
use Rattle.qw_low.proofs.Lengths.{added-most}
use Rattle.qw_text.proofs.BlocksCompare.{equality_compares}
use Rattle.qw_text.proofs.equality.emit_text_eq.Goals as goal

pub returns-clause-block : goal.returns-clause-block
returns-clause-block c = (
  equality_block c.args.left.value c.args.left.length c.args.right.value c.args.right.length c.args.free,
  c.in_ok-push_equality.ensures,
  equality_compares c.args.left c.args.right c.args.free c.requires.left.0 c.requires.left.1 c.requires.right.0 c.requires.right.1,
)

pub returns-clause-short : goal.returns-clause-short
returns-clause-short c =
    added-most 100 (equality_block c.args.left.value c.args.left.length c.args.right.value c.args.right.length c.args.free) c.args.block.now.code.items c.push_equality.new.block.code.items c.in_ok-push_equality.ensures (omega arith)
