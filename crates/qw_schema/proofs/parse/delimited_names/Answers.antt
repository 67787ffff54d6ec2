use Rattle.qw_schema.proofs.NameLemmas.{name_of-quoted}
use Rattle.qw_schema.proofs.parse.delimited_names.Goals as goal

pub returns : goal.returns
returns c = name_of-quoted
