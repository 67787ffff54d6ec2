-- Mirrors how `column_map::ColumnMap` keeps its tables.
use Rattle.std.specs.Prelude.{List, map}
use Rattle.qw_columns.specs.Mapped.{Mapped}
use Rattle.qw_columns.specs.declared.column_map.TableMap.{TableMap}

-- the columns of tables and where they stand
abbrev pub mapped_in : List TableMap → Mapped
mapped_in tables = record {
  columns = map (λ (table : TableMap). table.columns.items) tables;
  placed = map (λ (table : TableMap). table.placed.items) tables;
}
