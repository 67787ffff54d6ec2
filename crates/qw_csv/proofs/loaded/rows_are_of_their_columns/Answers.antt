use Rattle.qw_csv.proofs.ColumnLaws.{loaded_of_columns}
use Rattle.qw_csv.proofs.loaded.rows_are_of_their_columns.Goals as goal

pub returns : goal.returns
returns c = loaded_of_columns
