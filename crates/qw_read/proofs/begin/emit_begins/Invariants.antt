use Rattle.std.proofs.Common.{◌≡◌, ◌++◌, drop}
use Rattle.qw_low.specs.Steps.{steps_of}
use Rattle.qw_read.specs.Inner.Blocks.{begins_block}
use Rattle.qw_read.proofs.begin.emit_begins.Given as goal

abbrev pub invariant-loop-reader : goal.invariant-loop-reader
invariant-loop-reader l = l.block.code.items ++ steps_of (begins_block (drop l.reader-index l.readers)) ≡ l.initial.block.code.items ++ steps_of (begins_block l.readers)
