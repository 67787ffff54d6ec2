use Rattle.std.proofs.Common.{◌≡◌, ◌≤◌, length, map, take}
use Rattle.qw_types.specs.Contents.{column_type}
use Rattle.qw_types.specs.Limits.{most_rows}
use Rattle.qw_csv.specs.Field.{lent}
use Rattle.qw_csv.specs.Loading.{ArePartsOf}
use Rattle.qw_csv.proofs.PartLemmas.{octets_of}
use Rattle.qw_csv.proofs.loading.load_parts.Given as goal

abbrev pub invariant-loop-index : goal.invariant-loop-index
invariant-loop-index l = record {
  each : ArePartsOf l.table (lent l.null) (octets_of (take l.index l.parts)) l.loaded.rows;
  few : length l.loaded.rows ≤ most_rows;
  columns : l.loaded.columns ≡ map column_type l.table.columns;
}
