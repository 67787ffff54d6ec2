use Rattle.qw_schema.proofs.SchemaLemmas.{ReadsSchema-unique, IsRefused-unique, reads_or_refused}
use Rattle.qw_schema.proofs.parse.one_schema.Goals as goal

pub returns : goal.returns
returns c = record {
  schema = ReadsSchema-unique;
  cause = IsRefused-unique;
  either = reads_or_refused;
}
