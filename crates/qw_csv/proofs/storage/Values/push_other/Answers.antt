use Rattle.qw_csv.specs.Field.{lent, val_of}
use Rattle.qw_csv.proofs.PushLemmas.{field_of_column}
use Rattle.qw_csv.proofs.storage.Values.push_other.Goals as goal

pub push-requires-clause-typed : goal.push-requires-clause-typed
push-requires-clause-typed c = rw c.column_type.ensures (field_of_column (lent c.args.null) c.args.column.now c.args.field.now (val_of c.in-Ok.cell) c.in-Ok.ensures)
