use Rattle.qw_schema.proofs.TableLemmas.{IsTableOf-unique}
use Rattle.qw_schema.proofs.parse.one_table_definition.Goals as goal

pub returns : goal.returns
returns c = IsTableOf-unique
