use Rattle.std.proofs.Common.{map, take}
use Rattle.qw_types.specs.Contents.{column_type}
use Rattle.qw_csv.specs.Inner.Rows.{AreAllKept}
use Rattle.qw_csv.proofs.loading.no_values.Given as goal

abbrev pub invariant-loop-column : goal.invariant-loop-column
invariant-loop-column l = AreAllKept 0 (map column_type (take l.column-index l.columns)) l.values.items
