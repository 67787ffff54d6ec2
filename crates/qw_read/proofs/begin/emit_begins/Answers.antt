use Rattle.std.proofs.Common.{◌++◌, ◌≤◌}
use Rattle.qw_low.specs.Steps.{steps_of}
use Rattle.qw_read.specs.Inner.Blocks.{begin_block, begins_block}
use Rattle.qw_read.proofs.Several.{begins_begin, next_steps, all_steps, one_of_all}
use Rattle.qw_read.proofs.begin.emit_begins.Goals as goal

pub push_begin-requires : goal.push_begin-requires
push_begin-requires c = one_of_all (λ r. r.index ≤ 4096) c.args.readers.now c.loop-reader.reader-index _ c.loop-reader-test.true c.requires

pub loop-reader-preserved : goal.loop-reader-preserved
loop-reader-preserved c =
    next_steps begin_block c.args.readers.now c.loop-reader.reader-index _ (c.args.block.now.code.items ++ steps_of (begins_block c.args.readers.now)) c.loop-reader.block.code.items c.push_begin.new.block.code.items
    c.loop-reader-test.true c.loop-reader.invariant c.in_ok-push_begin.ensures

pub returns : goal.returns
returns c = (
  begins_block c.args.readers.now,
  all_steps begin_block c.args.readers.now c.loop-reader.reader-index (c.args.block.now.code.items ++ steps_of (begins_block c.args.readers.now)) c.loop-reader.block.code.items c.loop-reader-test.false
      c.loop-reader.invariant,
  begins_begin c.args.readers.now,
)
