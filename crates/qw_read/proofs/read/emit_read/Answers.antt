use Rattle.qw_read.specs.Inner.Blocks.{read_block}
use Rattle.qw_read.proofs.ReadRuns.{read_reads}
use Rattle.qw_read.proofs.read.emit_read.Goals as goal

pub returns : goal.returns
returns c = (read_block c.args.reader, c.in_ok-push_read.ensures, read_reads c.args.reader c.requires)
