use Rattle.qw_parse.proofs.SelectLemmas.{one_select}
use Rattle.qw_parse.proofs.laws.one_query_specification.Goals as goal

pub returns : goal.returns
returns c = one_select
