-- How the columns of loaded tables stand in the linear memory (docs/FORMATS.md). Numbers are little endian; signed ones are in
-- two's complement (WebAssembly Core Specification 1.0, 4.3.1 "Storage" and 4.3.2 "Sign Interpretation").
use Rattle.std.specs.Prelude.{◌≡◌, suc, ◌+◌, ◌-◌, ◌*◌, ◌/◌, ◌%◌, ◌^◌, ◌<◌, ◌≤◌, ◌==◌, ◌&&◌, not, Bool, true, false, if◌then◌else◌, ℕ, pos, List, [], ◌∷◌, Some, length, map, take, drop, slice_get, slice_index_or}
use Rattle.std.specs.Int.{cast_signed, w32, w64}
use Rattle.std.specs.List.{AllByRecursion}
use Rattle.qw_types.specs.Contents.{Contents}
use Rattle.qw_types.specs.Value.{text_octets}
use Rattle.qw_types.specs.declared.schema.ColumnType.{ColumnType}
use Rattle.qw_types.specs.declared.value.Ty.{Ty}
use Rattle.qw_types.specs.declared.value.Ty.TheVariants.{Integer, Decimal, Date, Varchar}
use Rattle.qw_types.specs.declared.value.Val.{Val}
use Rattle.qw_types.specs.declared.value.Val.TheVariants as val
use Rattle.qw_linear.specs.Memory.{page, number_at}
use Rattle.qw_map.specs.Areas.{Area}
use Rattle.qw_map.specs.declared.layout.Placed.{Placed}

-- ---- the parts of a column

-- where the columns begin: the octets before belong to nobody
abbrev pub columns_start : ℕ
columns_start = 64

-- How many octets the values of so many rows take: four each, of a DECIMAL eight. In the place of a text stands the offset at
-- which it begins among the column's octets, and behind the last of them the offset at which that one ends.
abbrev pub values_size : Ty → ℕ → ℕ
values_size Integer rows = 4 * rows
values_size (Decimal precision scale) rows = 8 * rows
values_size Date rows = 4 * rows
values_size (Varchar limit) rows = 4 * rows + 4

-- how many octets the null bits take, of a column that may be null: eight rows have one
abbrev pub nulls_size : (not_null : Bool) → ℕ → ℕ
nulls_size true rows = 0
nulls_size false rows = (rows + 7) / 8

-- The three parts of a column: its values, the octets of its texts, and its null bits. A part that the column hasn't is empty.
abbrev pub areas_of : Ty → (not_null : Bool) → Placed → List Area
areas_of ty not_null placed =
    record { start = placed.values; size = values_size ty placed.rows }
    ∷ record { start = placed.octets; size = placed.size }
    ∷ record { start = placed.nulls; size = nulls_size not_null placed.rows } ∷ []

-- ---- the values that stand there

-- the null bit of a row: eight rows to an octet, the first of them in its lowest bit
abbrev pub null_bit : List ℕ → (nulls row : ℕ) → ℕ
null_bit memory nulls row = number_at memory (nulls + row / 8) 1 / 2 ^ (row % 8) % 2

-- whether a row's value is null
abbrev pub is_null_at : List ℕ → (not_null : Bool) → Placed → ℕ → Bool
is_null_at memory not_null placed row = not not_null && (null_bit memory placed.nulls row == 1)

-- where the text of a row begins among the column's octets; at the number of the rows, where the last one ends
abbrev pub text_offset : List ℕ → Placed → ℕ → ℕ
text_offset memory placed row = number_at memory (placed.values + 4 * row) 4

-- the octets of a row's text
abbrev pub text_at : List ℕ → Placed → ℕ → List ℕ
text_at memory placed row =
    take (text_offset memory placed (row + 1) - text_offset memory placed row)
    (drop (placed.octets + text_offset memory placed row) memory)

-- what stands in the place of a row's value, null or not
abbrev pub stored_at : List ℕ → Ty → Placed → ℕ → Val
stored_at memory Integer placed row = val.Num (cast_signed w32 (number_at memory (placed.values + 4 * row) 4))
stored_at memory (Decimal precision scale) placed row = val.Num (cast_signed w64 (number_at memory (placed.values + 8 * row) 8))
stored_at memory Date placed row = val.Date (cast_signed w32 (number_at memory (placed.values + 4 * row) 4))
stored_at memory (Varchar limit) placed row = val.Text (text_at memory placed row)

-- the value of a row
abbrev pub value_at : List ℕ → Ty → (not_null : Bool) → Placed → ℕ → Val
value_at memory ty not_null placed row = if is_null_at memory not_null placed row then val.Null else stored_at memory ty placed row

-- what stands in the place of a null: 0, or a text without octets
abbrev pub blank : Ty → Val
blank Integer = val.Num (pos 0)
blank (Decimal precision scale) = val.Num (pos 0)
blank Date = val.Date (pos 0)
blank (Varchar limit) = val.Text []

-- texts stand one after another
abbrev pub HasOffsets : List ℕ → Ty → Placed → List Val → Type 0
HasOffsets memory (Varchar limit) placed values =
    (row : ℕ) → row ≤ length values → text_offset memory placed row ≡ text_octets (take row values)
HasOffsets memory Integer placed values = Unit {0}
HasOffsets memory (Decimal precision scale) placed values = Unit {0}
HasOffsets memory Date placed values = Unit {0}

-- A column with these values stands in the memory; the bits of the last octet that no row has are 0.
pub record HoldsColumn (memory : List ℕ) (ty : Ty) (not_null : Bool) (placed : Placed) (values : List Val) : Type 0 where
  pub rows_are : placed.rows ≡ length values
  pub size_is : placed.size ≡ text_octets values
  pub inside : AllByRecursion (λ (area : Area). area.start + area.size ≤ length memory) (areas_of ty not_null placed)
  pub each : (row : ℕ) (value : Val) → slice_get values row ≡ Some value → value_at memory ty not_null placed row ≡ value
  pub blanks : (row : ℕ) → slice_get values row ≡ Some val.Null → stored_at memory ty placed row ≡ blank ty
  pub spare : (row : ℕ) → length values ≤ row → row < 8 * nulls_size not_null placed.rows → null_bit memory placed.nulls row ≡ 0
  pub offsets : HasOffsets memory ty placed values

-- ---- where the columns of tables stand

-- the least multiple of 8 that isn't below a number
abbrev pub to_eight : ℕ → ℕ
to_eight n = (n + 7) / 8 * 8

-- the values of a column of rows, in their order
abbrev pub column_values : List (List Val) → (column : ℕ) → List Val
column_values rows column = map (λ row. slice_index_or row column val.Null) rows

-- a column of these values from a multiple of 8 on: each part begins at the least multiple of 8 behind the one before
abbrev pub placed_at : ℕ → Ty → List Val → Placed
placed_at at ty values =
    let octets = at + to_eight (values_size ty (length values)) in
    record {
      values = at;
      octets = octets;
      size = text_octets values;
      nulls = octets + to_eight (text_octets values);
      rows = length values;
    }

-- the least multiple of 8 behind a column
abbrev pub column_end : (not_null : Bool) → Placed → ℕ
column_end not_null placed = placed.nulls + to_eight (nulls_size not_null placed.rows)

-- columns from an address on, one behind another in the order of the table; the first is this one of the rows
abbrev pub placed_columns : ℕ → List ColumnType → (first : ℕ) → List (List Val) → List Placed
placed_columns at [] first rows = []
placed_columns at (column ∷ columns) first rows =
    let placed = placed_at at column.ty (column_values rows first) in
    placed ∷ placed_columns (column_end column.not_null placed) columns (suc first) rows

-- and where they end
abbrev pub columns_end : ℕ → List ColumnType → (first : ℕ) → List (List Val) → ℕ
columns_end at [] first rows = at
columns_end at (column ∷ columns) first rows =
    columns_end (column_end column.not_null (placed_at at column.ty (column_values rows first))) columns (suc first) rows

-- tables from an address on, one behind another: for each of them where its columns stand
abbrev pub placed_tables : ℕ → List Contents → List (List Placed)
placed_tables at [] = []
placed_tables at (table ∷ tables) =
    placed_columns at table.columns 0 table.rows ∷ placed_tables (columns_end at table.columns 0 table.rows) tables

-- and where they end
abbrev pub tables_end : ℕ → List Contents → ℕ
tables_end at [] = at
tables_end at (table ∷ tables) = tables_end (columns_end at table.columns 0 table.rows) tables

-- where the columns of these tables stand
abbrev pub map_of : List Contents → List (List Placed)
map_of tables = placed_tables columns_start tables

-- how many pages they take: the last one isn't shared
abbrev pub column_pages : List Contents → ℕ
column_pages tables = (tables_end columns_start tables + page - 1) / page

-- the memory holds all columns of a table, where the map says
pub record HoldsTable (memory : List ℕ) (columns : List Placed) (table : Contents) : Type 0 where
  pub many : length columns ≡ length table.columns
  pub each : (k : ℕ) (column : ColumnType) (placed : Placed) → slice_get table.columns k ≡ Some column → slice_get columns k ≡ Some placed →
      HoldsColumn memory column.ty column.not_null placed (column_values table.rows k)

-- the memory holds tables, where the map says
pub record Holds (map : List (List Placed)) (memory : List ℕ) (tables : List Contents) : Type 0 where
  pub many : length map ≡ length tables
  pub each : (k : ℕ) (table : Contents) (columns : List Placed) → slice_get tables k ≡ Some table → slice_get map k ≡ Some columns →
      HoldsTable memory columns table
