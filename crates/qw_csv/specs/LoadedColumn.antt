-- The columns of a table's rows, one by one.
use Rattle.std.specs.Prelude.{ℕ, suc, ◌≤◌, List, [], ◌∷◌, length}
use Rattle.std.specs.List.{AllByRecursion}
use Rattle.qw_types.specs.Contents.{Contents, IsOfColumnType}
use Rattle.qw_types.specs.Limits.{most_rows}
use Rattle.qw_types.specs.Value.{IsSized}
use Rattle.qw_types.specs.declared.schema.ColumnType.{ColumnType}
use Rattle.qw_types.specs.declared.value.Val.{Val}
use Rattle.qw_csv.specs.Cells.{values_of}

-- the type of a column, and its values in the order of the rows
pub record ColumnContents : Type 0 where
  pub type : ColumnType
  pub values : List Val

-- columns of these types, the first of which is this one of the rows
abbrev pub columns_from : List ColumnType → (first : ℕ) → List (List Val) → List ColumnContents
columns_from [] first rows = []
columns_from (type ∷ types) first rows = record { type = type; values = values_of rows first } ∷ columns_from types (suc first) rows

-- the columns of a table
abbrev pub columns_of : Contents → List ColumnContents
columns_of contents = columns_from contents.columns 0 contents.rows

-- the limits of a loaded column
pub record IsLoadedColumn (column : ColumnContents) : Type 0 where
  pub sized : IsSized column.type.ty
  pub few : length column.values ≤ most_rows
  pub typed : AllByRecursion (IsOfColumnType column.type) column.values
