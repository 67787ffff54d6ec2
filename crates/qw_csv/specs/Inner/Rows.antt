-- Mirrors how `loaded::Loaded` keeps rows: column by column, and `loaded_column::LoadedColumn` one of these.
use Rattle.std.specs.Prelude.{◌≡◌, ◌≤◌, ℕ, zero, suc, List, [], ◌∷◌, ◌++◌, length, map, slice_index_or}
use Rattle.std.specs.List.{AllByRecursion}
use Rattle.qw_types.specs.Limits.{most_columns, most_rows}
use Rattle.qw_types.specs.Value.{IsSized}
use Rattle.qw_types.specs.declared.value.Val.{Val}
use Rattle.qw_types.specs.declared.value.Val.TheVariants.{Null}
use Rattle.qw_types.specs.declared.schema.ColumnType.{ColumnType}
use Rattle.qw_csv.specs.declared.storage.Values.{Values}
use Rattle.qw_csv.specs.Inner.Storage.{AreKept, values_in}

-- the values of a row, one from each column
abbrev pub row_in : ℕ → List Values → List Val
row_in row columns = map (λ (kept : Values). slice_index_or (values_in kept) row Null) columns

-- so many rows
unfoldable pub rows_in : ℕ → List Values → List (List Val)
rows_in zero columns = []
rows_in (suc count) columns = rows_in count columns ++ row_in count columns ∷ []

-- each column is kept by its type, and has so many values
abbrev pub AreAllKept : ℕ → List ColumnType → List Values → Type 0
AreAllKept count [] [] = Unit {0}
AreAllKept count (type ∷ types) (kept ∷ columns) = AreKept type kept × (length (values_in kept) ≡ count) × AreAllKept count types columns
AreAllKept count _ _ = ⊥

pub record AreStored (count : ℕ) (types : List ColumnType) (columns : List Values) : Type 0 where
  pub some : 1 ≤ length types
  pub narrow : length types ≤ most_columns
  pub sized : AllByRecursion (λ (type : ColumnType). IsSized type.ty) types
  pub few : count ≤ most_rows
  pub kept : AreAllKept count types columns

-- one column of so many values, kept by its type
pub record IsStoredColumn (count : ℕ) (type : ColumnType) (values : Values) : Type 0 where
  pub sized : IsSized type.ty
  pub few : count ≤ most_rows
  pub kept : AreKept type values
  pub long : length (values_in values) ≡ count
