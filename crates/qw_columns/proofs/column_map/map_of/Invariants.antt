use Rattle.std.proofs.Common.{◌≡◌, ◌≤◌, ◌+◌, ◌*◌, map, take}
use Rattle.qw_types.specs.Contents.{Contents}
use Rattle.qw_map.specs.Columns.{columns_start, placed_tables, tables_end}
use Rattle.qw_columns.specs.Inner.Map.{mapped_in}
use Rattle.qw_columns.proofs.column_map.map_of.Given as goal

abbrev pub invariant-loop-table : goal.invariant-loop-table
invariant-loop-table l = record {
  at : l.at ≡ tables_end columns_start (take l.table-index l.loaded);
  limit : l.at ≤ 64 + 256520000000 * l.table-index;
  columns : (mapped_in l.tables.items).columns ≡ take l.table-index (map (λ (table : Contents). table.columns) l.loaded);
  placed : (mapped_in l.tables.items).placed ≡ take l.table-index (placed_tables columns_start l.loaded);
}
