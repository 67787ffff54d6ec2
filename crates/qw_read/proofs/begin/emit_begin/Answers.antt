use Rattle.qw_read.specs.Inner.Blocks.{begin_block}
use Rattle.qw_read.proofs.BasesRuns.{begin_begins}
use Rattle.qw_read.proofs.begin.emit_begin.Goals as goal

pub returns : goal.returns
returns c = (begin_block c.args.reader, c.in_ok-push_begin.ensures, begin_begins c.args.reader)
