use Rattle.qw_read.specs.Inner.TextBlocks.{literal_block}
use Rattle.qw_read.proofs.LiteralRuns.{literal_leads}
use Rattle.qw_read.proofs.literal.emit_literal.Goals as goal

pub returns : goal.returns
returns c = (literal_block c.args.literal, c.in_ok-push_literal.ensures.code, literal_leads c.args.literal c.in_ok-push_literal.ensures.narrow)
