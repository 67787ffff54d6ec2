-- Which columns stand in a memory, where, and what is read of them.
use Rattle.std.specs.Prelude.{◌≡◌, ℕ, List, Option, map, slice_get}
use Rattle.std.specs.List.{AllByRecursion}
use Rattle.std.specs.Option.{option_and_then}
use Rattle.qw_types.specs.Contents.{AreLoaded, Contents}
use Rattle.qw_types.specs.Value.{value_of}
use Rattle.qw_types.specs.declared.schema.ColumnType.{ColumnType}
use Rattle.qw_types.specs.declared.value.Val.{Val}
use Rattle.qw_map.specs.Columns.{Holds}
use Rattle.qw_map.specs.declared.layout.Placed.{Placed}

-- for each table the types of its columns, and where these stand
pub record Mapped : Type 0 where
  pub columns : List (List ColumnType)
  pub placed : List (List Placed)

-- what a list of lists has at an index of the outer one and an index of the inner one
abbrev pub at_indices : {T : Type 0} → List (List T) → (outer inner : ℕ) → Option T
at_indices {T} lists outer inner = option_and_then (λ (list : List T). slice_get list inner) (slice_get lists outer)

-- the memory holds loaded tables of these columns, where the map says
pub record IsMapOf (mapped : Mapped) (memory : List ℕ) (tables : List Contents) : Type 0 where
  pub columns : mapped.columns ≡ map (λ (table : Contents). table.columns) tables
  pub loaded : AllByRecursion AreLoaded tables
  pub holds : Holds mapped.placed memory tables

-- the value of a column in a row of a table, all counted from 0
abbrev pub value_in : List Contents → (table column row : ℕ) → Option Val
value_in tables table column row = option_and_then (λ (one : Contents). value_of one.rows row column) (slice_get tables table)
