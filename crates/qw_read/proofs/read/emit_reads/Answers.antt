use Rattle.std.proofs.Common.{◌++◌}
use Rattle.qw_low.specs.Steps.{steps_of}
use Rattle.qw_read.specs.Inner.Blocks.{read_block, reads_block}
use Rattle.qw_read.proofs.Several.{reads_read, next_steps, all_steps}
use Rattle.qw_read.proofs.read.emit_reads.Goals as goal

pub loop-reader-preserved : goal.loop-reader-preserved
loop-reader-preserved c =
    next_steps read_block c.args.readers.now c.loop-reader.reader-index _ (c.args.block.now.code.items ++ steps_of (reads_block c.args.readers.now)) c.loop-reader.block.code.items c.push_read.new.block.code.items
    c.loop-reader-test.true c.loop-reader.invariant c.in_ok-push_read.ensures

pub returns : goal.returns
returns c = (
  reads_block c.args.readers.now,
  all_steps read_block c.args.readers.now c.loop-reader.reader-index (c.args.block.now.code.items ++ steps_of (reads_block c.args.readers.now)) c.loop-reader.block.code.items c.loop-reader-test.false
      c.loop-reader.invariant,
  reads_read c.args.readers.now c.requires,
)
