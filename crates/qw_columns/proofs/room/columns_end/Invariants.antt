use Rattle.std.proofs.Common.{◌≡◌, ◌≤◌, ◌+◌, ◌*◌, take}
use Rattle.qw_map.specs.Columns.{columns_end}
use Rattle.qw_columns.proofs.room.columns_end.Given as goal

abbrev pub invariant-loop-column : goal.invariant-loop-column
invariant-loop-column l = record {
  end : l.end ≡ columns_end l.at (take l.column l.loaded.columns) 0 l.loaded.rows;
  limit : l.end ≤ l.at + 4008125000 * l.column;
}
