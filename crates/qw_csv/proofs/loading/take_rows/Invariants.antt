use Rattle.std.proofs.Common.{List, ℕ, map}
use Rattle.qw_types.specs.Contents.{column_type}
use Rattle.qw_types.specs.declared.value.Val.{Val}
use Rattle.qw_csv.specs.Field.{lent}
use Rattle.qw_csv.specs.Loading.{AreRecordsBehind}
use Rattle.qw_csv.specs.Inner.Loading.{HasRead}
use Rattle.qw_csv.specs.Inner.Rows.{AreAllKept, rows_in}
use Rattle.qw_csv.proofs.FileLemmas.{RowsRead}
use Rattle.qw_csv.proofs.loading.take_rows.Given as goal

abbrev pub invariant-loop-len : goal.invariant-loop-len
invariant-loop-len l = record {
  kept : AreAllKept l.len (map column_type l.columns) l.values.items;
  read : (text : List ℕ) (first : List (List Val)) (read old : List (List (List ℕ))) → HasRead l.fn.reader text read → AreRecordsBehind (lent l.null) l.columns first old l.fn.loaded.rows
      → RowsRead (lent l.null) l.columns first l.reader text read old (rows_in l.len l.values.items);
}
