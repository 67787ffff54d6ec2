use Rattle.qw_top.proofs.ContentLemmas.{HasQueries-unique}
use Rattle.qw_top.proofs.top.one_content.Goals as goal

pub returns : goal.returns
returns c = HasQueries-unique
