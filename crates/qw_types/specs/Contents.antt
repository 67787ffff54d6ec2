-- The rows of a table, and what they keep (ISO/IEC 9075:1992, 4.9 "Tables" and 11.4 "column definition").
use Rattle.std.specs.Prelude.{ℕ, ◌≤◌, List, [], get_or, length}
use Rattle.std.specs.List.{AllByRecursion, AllZip}
use Rattle.qw_types.specs.Limits.{most_columns, most_rows}
use Rattle.qw_types.specs.Value.{IsOfTypeOrNull, IsSized}
use Rattle.qw_types.specs.declared.schema.Column.{Column}
use Rattle.qw_types.specs.declared.schema.ColumnType.{ColumnType}
use Rattle.qw_types.specs.declared.value.Val.{Val}

-- the types of its columns, and its rows
pub record Contents : Type 0 where
  pub columns : List ColumnType
  pub rows : List (List Val)

-- a column's type, without its name
abbrev pub column_type : Column → ColumnType
column_type column = record { ty = column.ty; not_null = column.not_null }

-- a value of such a column
abbrev pub IsOfColumnType : ColumnType → Val → Type 0
IsOfColumnType column value = IsOfTypeOrNull column.ty column.not_null value

-- the limits of a loaded table
pub record AreLoaded (contents : Contents) : Type 0 where
  pub some : 1 ≤ length contents.columns
  pub narrow : length contents.columns ≤ most_columns
  -- each of a type of a size that it may have
  pub sized : AllByRecursion (λ (column : ColumnType). IsSized column.ty) contents.columns
  pub few : length contents.rows ≤ most_rows
  -- a row has a value of each column, in their order
  pub typed : AllByRecursion (AllZip IsOfColumnType contents.columns) contents.rows

-- the rows of a table of the schema, counted from 0
abbrev pub rows_of : List (List (List Val)) → ℕ → List (List Val)
rows_of tables table = get_or tables table []
