use Rattle.csv.specs.Records.{fields_of}
use Rattle.qw_csv.proofs.RecordLemmas.{field_read, some_field}
use Rattle.qw_csv.proofs.loading.field.Goals as goal

pub unwrap-requires : goal.unwrap-requires
unwrap-requires c = some_field (fields_of c.args.row.now) c.args.index c.get.result c.requires c.get.ensures.value

pub returns : goal.returns
returns c = field_read (fields_of c.args.row.now) c.args.index c.get.result c.unwrap.result c.unwrap.ensures c.get.ensures.value
