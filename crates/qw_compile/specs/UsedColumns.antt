-- Which columns of tables a layout has: those of some numbers in rows of FROM, each of the table of its entry.
use Rattle.std.specs.Prelude.{◌≡◌, ◌/◌, ◌%◌, ℕ, List, Some, slice_get}
use Rattle.std.specs.List.{AllZip}
use Rattle.qw_map.specs.declared.layout.Used.{Used}
use Rattle.qw_meaning.specs.Select.{Entry}

-- Column c of entry e of FROM, of number 64 * e + c, is column c of the entry's table (ISO/IEC 9075:1992, 6.4, 7.4), as it is declared (11.4).
pub record IsUsedAt (entries : List Entry) (number : ℕ) (used : Used) : Type 0 where
  pub entry : Entry
  pub stands : slice_get entries (number / 64) ≡ Some entry
  pub table_is : used.table ≡ entry.table
  pub column_is : used.column ≡ number % 64
  pub declared : slice_get entry.columns (number % 64) ≡ Some (record { ty = used.ty; not_null = used.not_null })

-- one for each, in their order
abbrev pub AreUsedAt : List Entry → (numbers : List ℕ) → List Used → Type 0
AreUsedAt entries numbers used = AllZip (IsUsedAt entries) numbers used
