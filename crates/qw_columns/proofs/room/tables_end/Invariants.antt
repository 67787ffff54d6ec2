use Rattle.std.proofs.Common.{◌≡◌, ◌≤◌, ◌+◌, ◌*◌, take}
use Rattle.std.specs.List.{AllByRecursion}
use Rattle.qw_types.specs.Contents.{AreLoaded}
use Rattle.qw_map.specs.Columns.{columns_start, tables_end}
use Rattle.qw_columns.proofs.room.tables_end.Given as goal

abbrev pub invariant-loop-table : goal.invariant-loop-table
invariant-loop-table l = record {
  end : l.end ≡ tables_end columns_start (take l.table-index l.loaded);
  limit : l.end ≤ 64 + 256520000000 * l.table-index;
  loaded : AllByRecursion AreLoaded (take l.table-index l.loaded);
}
