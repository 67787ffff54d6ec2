-- Tables whose columns are all INTEGERs that can't be null.
use Rattle.std.specs.Prelude.{◌≡◌, ℕ, List, length, true}
use Rattle.std.specs.List.{AllByRecursion}
use Rattle.qw_types.specs.Value.{IsOfType}
use Rattle.qw_types.specs.declared.schema.Column.{Column}
use Rattle.qw_types.specs.declared.schema.ColumnType.{ColumnType}
use Rattle.qw_types.specs.declared.value.Ty.TheVariants.{Integer}
use Rattle.qw_types.specs.declared.value.Val.{Val}

-- the type of an INTEGER NOT NULL column
abbrev pub integer_column : ColumnType
integer_column = record { ty = Integer; not_null = true }

-- each column is an INTEGER that can't be null
abbrev pub AreIntegers : List Column → Type 0
AreIntegers columns = AllByRecursion (λ (column : Column). (column.ty ≡ Integer) × (column.not_null ≡ true)) columns

abbrev pub AreIntegerColumns : List ColumnType → Type 0
AreIntegerColumns columns = AllByRecursion (λ column. column ≡ integer_column) columns

-- a row of so many INTEGERs
abbrev pub IsIntegerRow : ℕ → List Val → Type 0
IsIntegerRow width row = (length row ≡ width) × AllByRecursion (IsOfType Integer) row
