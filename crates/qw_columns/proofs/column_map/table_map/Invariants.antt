use Rattle.std.proofs.Common.{◌≡◌, ◌≤◌, ◌+◌, ◌*◌, take}
use Rattle.qw_map.specs.Columns.{columns_end, placed_columns}
use Rattle.qw_columns.proofs.column_map.table_map.Given as goal

abbrev pub invariant-loop-column : goal.invariant-loop-column
invariant-loop-column l = record {
  end : l.end ≡ columns_end l.at (take l.column l.loaded.columns) 0 l.loaded.rows;
  limit : l.end ≤ l.at + 4008125000 * l.column;
  columns : l.columns.items ≡ take l.column l.loaded.columns;
  placed : l.placed.items ≡ take l.column (placed_columns l.at l.loaded.columns 0 l.loaded.rows);
}
