-- Mirrors what the functions of `columns` and `writing` take, and leave in the memory.
use Rattle.std.specs.Prelude.{◌≡◌, ℕ, zero, suc, ◌+◌, ◌-◌, ◌*◌, ◌/◌, ◌%◌, ◌^◌, ◌<◌, ◌≤◌, List, length, map, take, drop, Option, Some, None, Bool, true, false, slice_get}
use Rattle.std.specs.Global.{Vec}
use Rattle.std.specs.Int.{cast_unsigned, w64}
use Rattle.qw_types.specs.Contents.{Contents}
use Rattle.qw_types.specs.Value.{text_octets}
use Rattle.qw_types.specs.declared.value.Ty.{Ty}
use Rattle.qw_types.specs.declared.value.Ty.TheVariants as ty
use Rattle.qw_types.specs.declared.value.Val.{Val}
use Rattle.qw_types.specs.declared.value.Val.TheVariants as val
use Rattle.qw_csv.specs.Cells.{number_in, octets_in}
use Rattle.qw_csv.specs.LoadedColumn.{ColumnContents, columns_of}
use Rattle.qw_linear.specs.Linear.{Octets}
use Rattle.qw_linear.specs.Memory.{AreOctets, SameBelow, number_at, page}
use Rattle.qw_map.specs.Columns.{placed_columns}
use Rattle.qw_map.specs.declared.layout.Placed.{Placed}

-- a memory that was written to from an address on
pub record KeepsBelow (before after : Octets) (at : ℕ) : Type 0 where
  pub below : SameBelow before.octets after.octets at
  pub octets : AreOctets before.octets → AreOctets after.octets
  pub len : length after.octets ≡ length before.octets
  pub reserved : after.reserved ≡ before.reserved

-- a memory that grew, and was written to from an address on
pub record GrowsFrom (before after : Octets) (at : ℕ) : Type 0 where
  pub below : SameBelow before.octets after.octets at
  pub octets : AreOctets before.octets → AreOctets after.octets
  pub len : length before.octets ≤ length after.octets
  pub reserved : after.reserved ≡ before.reserved

-- how many pages so many octets take
abbrev pub pages_to : ℕ → ℕ
pages_to end = (end + page - 1) / page

-- the columns of a table, and where they stand that begin at an address
pub record AreColumnsAt (at : ℕ) (table : Contents) (columns : List ColumnContents) (placed : List Placed) : Type 0 where
  pub columns_are : columns ≡ columns_of table
  pub placed_are : placed ≡ placed_columns at table.columns 0 table.rows

-- the columns of tables, table by table
abbrev pub AreColumnsOf : List (Vec ColumnContents) → List Contents → Type 0
AreColumnsOf tables loaded = map (λ (columns : Vec ColumnContents). columns.items) tables ≡ map columns_of loaded

-- ---- of one value

-- whether a row has a null, and as a bit
abbrev pub is_null : Option Val → Bool
is_null None = false
is_null (Some val.Null) = true
is_null (Some (val.Num number)) = false
is_null (Some (val.Date number)) = false
is_null (Some (val.Text octets)) = false

abbrev pub bit_of : Bool → ℕ
bit_of true = 1
bit_of false = 0

-- the null bits of so many rows from one on, the first in the lowest bit
unfoldable pub flags_from : List Val → (row count : ℕ) → ℕ
flags_from values row zero = 0
flags_from values row (suc count) = bit_of (is_null (slice_get values row)) + 2 * flags_from values (row + 1) count

-- ---- of the first values of a column

-- their numbers
pub record HasNumbers (memory : List ℕ) (at width : ℕ) (values : List Val) (count : ℕ) : Type 0 where
  pub each : (row : ℕ) (value : Val) → row < count → slice_get values row ≡ Some value →
      number_at memory (at + width * row) width ≡ cast_unsigned w64 (number_in value) % 2 ^ (8 * width)

-- where their texts begin
pub record HasStarts (memory : List ℕ) (at : ℕ) (values : List Val) (count : ℕ) : Type 0 where
  pub each : (row : ℕ) → row < count → number_at memory (at + 4 * row) 4 ≡ text_octets (take row values)

-- their texts
pub record HasTexts (memory : List ℕ) (at : ℕ) (values : List Val) (count : ℕ) : Type 0 where
  pub each : (row : ℕ) (value : Val) → row < count → slice_get values row ≡ Some value →
      take (length (octets_in value)) (drop (at + text_octets (take row values)) memory) ≡ octets_in value

-- so many octets of their null bits
pub record HasNulls (memory : List ℕ) (at : ℕ) (values : List Val) (count : ℕ) : Type 0 where
  pub each : (group : ℕ) → group < count → number_at memory (at + group) 1 ≡ flags_from values (8 * group) 8

-- the values of a column, or where its texts begin and the texts themselves
abbrev pub HasValues : List ℕ → Ty → Placed → List Val → Type 0
HasValues memory ty.Integer placed values = HasNumbers memory placed.values 4 values (length values)
HasValues memory (ty.Decimal precision scale) placed values = HasNumbers memory placed.values 8 values (length values)
HasValues memory ty.Date placed values = HasNumbers memory placed.values 4 values (length values)
HasValues memory (ty.Varchar limit) placed values =
    HasStarts memory placed.values values (length values + 1) × HasTexts memory placed.octets values (length values)
