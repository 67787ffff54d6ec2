-- The state in which a run of a module begins: what its tables, its literals and its limit say of a memory that is ready for it
-- (qw_map/specs/Layout.antt), wherever columns and the first page lie.
use Rattle.std.specs.Prelude.{◌≡◌, ℕ, zero, suc, ◌+◌, ◌-◌, ◌*◌, ◌/◌, ◌%◌, ◌^◌, ◌==◌, nat_le, nat_lt, ◌&&◌, ◌||◌, if◌then◌else◌, true, false, Bool, ℤ, pos, List, [], ◌∷◌, ◌++◌, length, take, Option, Some, None, slice_get}
use Rattle.std.specs.Int.{w32, w64, cast_signed, cast_unsigned}
use Rattle.std.specs.Option.{option_and_then, option_map, option_map_or}
use Rattle.qw_types.specs.Value.{text_octets}
use Rattle.qw_types.specs.declared.value.Ty.{Ty}
use Rattle.qw_types.specs.declared.value.Ty.TheVariants as ty
use Rattle.qw_types.specs.declared.value.Val.{Val}
use Rattle.qw_types.specs.declared.value.Val.TheVariants as val
use Rattle.qw_linear.specs.Memory.{page}
use Rattle.qw_types.specs.Contents.{rows_of}
use Rattle.qw_map.specs.Columns.{blank, column_values, values_size, nulls_size}
use Rattle.qw_map.specs.Layout.{Layout, entry_offset, descriptor_size, is_text}
use Rattle.qw_map.specs.declared.layout.Used.{Used}
use Rattle.qw_low.specs.State.{Column, Own, Value, Number, Address, Cells, LowState}

-- ---- what stands in the parts of a column

-- the values of a column that is used
abbrev pub values_of : List (List (List Val)) → Used → List Val
values_of tables used = column_values (rows_of tables used.table) used.column

-- the sizes of its three parts, and of those of several columns
abbrev pub part_sizes : Used → List Val → List ℕ
part_sizes used values = values_size used.ty (length values) ∷ text_octets values ∷ nulls_size used.not_null (length values) ∷ []

abbrev pub sizes_of : List (List (List Val)) → List Used → List ℕ
sizes_of tables [] = []
sizes_of tables (used ∷ columns) = part_sizes used (values_of tables used) ++ sizes_of tables columns

-- the number of a value, 0 of a null; and the octets of texts, one behind the other
abbrev pub number_of : Val → ℤ
number_of val.Null = pos 0
number_of (val.Num n) = n
number_of (val.Date n) = n
number_of (val.Text octets) = pos 0

abbrev pub octets_of : List Val → List ℕ
octets_of [] = []
octets_of (val.Null ∷ values) = octets_of values
octets_of (val.Num n ∷ values) = octets_of values
octets_of (val.Date n ∷ values) = octets_of values
octets_of (val.Text octets ∷ values) = octets ++ octets_of values

-- whether a value is null, as a bit, and the octet of eight rows' bits, of which those that aren't there have 0
abbrev pub null_flag : Val → ℕ
null_flag val.Null = 1
null_flag (val.Num n) = 0
null_flag (val.Date n) = 0
null_flag (val.Text octets) = 0

abbrev pub flag_at : List Val → (row : ℕ) → ℕ
flag_at values row = option_map_or null_flag (slice_get values row) 0

abbrev pub null_octet : List Val → (row : ℕ) → ℕ
null_octet values row =
    flag_at values row + 2 * flag_at values (row + 1) + 4 * flag_at values (row + 2) + 8 * flag_at values (row + 3) + 16 * flag_at values (row + 4)
    + 32 * flag_at values (row + 5) + 64 * flag_at values (row + 6) + 128 * flag_at values (row + 7)

-- among the values a number is known whole, and of a text where it begins, and where the last one ends
abbrev pub value_cell : Ty → List Val → (offset width : ℕ) → Option Value
value_cell ty.Integer values offset width =
    if (width == 4) && (offset % 4 == 0) then option_map (λ v. Number (cast_unsigned w32 (number_of v))) (slice_get values (offset / 4)) else None
value_cell (ty.Decimal precision scale) values offset width =
    if (width == 8) && (offset % 8 == 0) then option_map (λ v. Number (cast_unsigned w64 (number_of v))) (slice_get values (offset / 8)) else None
value_cell ty.Date values offset width =
    if (width == 4) && (offset % 4 == 0) then option_map (λ v. Number (cast_unsigned w32 (number_of v))) (slice_get values (offset / 4)) else None
value_cell (ty.Varchar limit) values offset width =
    if ((width == 4) && (offset % 4 == 0)) && nat_le (offset / 4) (length values) then Some (Number (text_octets (take (offset / 4) values))) else None

-- among octets and null bits each octet
abbrev pub octet_cell : List Val → (offset width : ℕ) → Option Value
octet_cell values offset width = if width == 1 then option_map Number (slice_get (octets_of values) offset) else None

abbrev pub null_cell : (not_null : Bool) → List Val → (offset width : ℕ) → Option Value
null_cell not_null values offset width =
    if (width == 1) && nat_lt offset (nulls_size not_null (length values)) then Some (Number (null_octet values (8 * offset))) else None

abbrev pub column_cell : (part : ℕ) → Used → List Val → (offset width : ℕ) → Option Value
column_cell zero used values = value_cell used.ty values
column_cell (suc zero) used values = octet_cell values
column_cell (suc (suc part)) used values = null_cell used.not_null values

-- ---- what stands in the first page

-- the word that a column's entry in the descriptor has at an offset: the addresses of its parts, or 0 where it hasn't one, and how many rows
-- it has
abbrev pub entry_word : (column : ℕ) → Used → (rows offset : ℕ) → Option Value
entry_word k used rows offset =
    if offset == 0 then Some (Address (Column (3 * k)) 0)
    else (if offset == 4 then Some (if used.not_null then Number 0 else Address (Column (3 * k + 2)) 0)
    else (if offset == 8 then Some (if is_text used.ty then Address (Column (3 * k + 1)) 0 else Number 0)
    else (if offset == 12 then Some (Number rows) else None)))

-- the word that the descriptor has at an offset: the first free address, the end of the page, and those of the entries
abbrev pub descriptor_word : Layout → List (List (List Val)) → (offset : ℕ) → Option Value
descriptor_word layout tables offset =
    if offset == 0 then Some (Address (Own 0) (descriptor_size layout))
    else (if offset == 4 then Some (Address (Own 0) page)
    else (if nat_lt offset 64 then None
    else option_and_then (λ (used : Used). entry_word ((offset - 64) / 16) used (length (rows_of tables used.table)) ((offset - 64) % 16)) (slice_get layout.columns ((offset - 64) / 16))))

-- the octets of texts behind them, and zeros
abbrev pub literal_octet : Layout → (offset : ℕ) → Option Value
literal_octet layout offset =
    if nat_lt offset (entry_offset (length layout.columns)) then None else option_map Number (slice_get layout.literals (offset - entry_offset (length layout.columns)))

abbrev pub are_zeros : Layout → (offset width : ℕ) → Bool
are_zeros layout offset width =
    (nat_le 8 offset && nat_le (offset + width) 64) || (nat_le (entry_offset (length layout.columns) + length layout.literals) offset && nat_le (offset + width) page)

abbrev pub or_else : Option Value → Option Value → Option Value
or_else None other = other
or_else (Some v) other = Some v

abbrev pub page_cell : Layout → List (List (List Val)) → (offset width : ℕ) → Option Value
page_cell layout tables offset width =
    or_else (if width == 4 then descriptor_word layout tables offset else None)
    (or_else (if width == 1 then literal_octet layout offset else None) (if are_zeros layout offset width then Some (Number 0) else None))

abbrev pub cells_of : Layout → List (List (List Val)) → Cells
cells_of layout tables (Column part) offset width =
    option_and_then (λ (used : Used). column_cell (part % 3) used (values_of tables used) offset width) (slice_get layout.columns (part / 3))
cells_of layout tables (Own zero) offset width = page_cell layout tables offset width
cells_of layout tables (Own (suc k)) offset width = None

-- The state with these locals: the parts of the layout's columns, and one page.
abbrev pub first_state : Layout → List (List (List Val)) → (limit : ℕ) → (locals : List Value) → LowState
first_state layout tables limit locals = record {
  locals = locals;
  cells = cells_of layout tables;
  columns = sizes_of tables layout.columns;
  own = page ∷ [];
  held = 1;
  limit = limit;
  refused = None;
}

-- ---- what is known of columns, by their values

-- the values of the column of this index are known at a row: four octets, or eight of a DECIMAL, read as a signed number; of a text
-- where it begins and where it ends among the column's octets, and each of its octets
abbrev pub KnowsStored : Cells → (column : ℕ) → Ty → (row : ℕ) → Val → Type 0
KnowsStored cells k ty.Integer row (val.Num n) = (x : ℕ) × (cells (Column (3 * k)) (4 * row) 4 ≡ Some (Number x)) × (cast_signed w32 x ≡ n)
KnowsStored cells k (ty.Decimal precision scale) row (val.Num n) = (x : ℕ) × (cells (Column (3 * k)) (8 * row) 8 ≡ Some (Number x)) × (cast_signed w64 x ≡ n)
KnowsStored cells k ty.Date row (val.Date n) = (x : ℕ) × (cells (Column (3 * k)) (4 * row) 4 ≡ Some (Number x)) × (cast_signed w32 x ≡ n)
KnowsStored cells k (ty.Varchar limit) row (val.Text octets) =
    (from : ℕ) × (cells (Column (3 * k)) (4 * row) 4 ≡ Some (Number from)) × (cells (Column (3 * k)) (4 * (row + 1)) 4 ≡ Some (Number (from + length octets)))
    × ((i octet : ℕ) → slice_get octets i ≡ Some octet → cells (Column (3 * k + 1)) (from + i) 1 ≡ Some (Number octet))
KnowsStored cells k _ row _ = ⊥

-- in the place of a null its blank is known
abbrev pub KnowsValue : Cells → (column : ℕ) → Ty → (row : ℕ) → Val → Type 0
KnowsValue cells k type row val.Null = KnowsStored cells k type row (blank type)
KnowsValue cells k type row (val.Num n) = KnowsStored cells k type row (val.Num n)
KnowsValue cells k type row (val.Date n) = KnowsStored cells k type row (val.Date n)
KnowsValue cells k type row (val.Text octets) = KnowsStored cells k type row (val.Text octets)

-- of a column that may be null, the octet with a row's null bit is known
abbrev pub KnowsNull : Cells → (column row : ℕ) → (not_null : Bool) → Val → Type 0
KnowsNull cells k row true value = Unit {0}
KnowsNull cells k row false value =
    (octet : ℕ) × (cells (Column (3 * k + 2)) (row / 8) 1 ≡ Some (Number octet)) × (octet / 2 ^ (row % 8) % 2 ≡ null_flag value)

-- ---- what is known of the descriptor

-- its head: the first free address, the end of the page, and no results
abbrev pub KnowsHead : Cells → Layout → Type 0
KnowsHead cells layout =
    (cells (Own 0) 0 4 ≡ Some (Address (Own 0) (descriptor_size layout))) × (cells (Own 0) 4 4 ≡ Some (Address (Own 0) page))
    × (cells (Own 0) 8 4 ≡ Some (Number 0)) × (cells (Own 0) 12 4 ≡ Some (Number 0)) × (cells (Own 0) 16 8 ≡ Some (Number 0))

-- the entry of a column of so many rows: the addresses of its parts, or 0 where it hasn't one
abbrev pub KnowsEntry : Cells → (column : ℕ) → Used → (rows : ℕ) → Type 0
KnowsEntry cells k used rows =
    (cells (Own 0) (entry_offset k) 4 ≡ Some (Address (Column (3 * k)) 0))
    × (cells (Own 0) (entry_offset k + 4) 4 ≡ Some (if used.not_null then Number 0 else Address (Column (3 * k + 2)) 0))
    × (cells (Own 0) (entry_offset k + 8) 4 ≡ Some (if is_text used.ty then Address (Column (3 * k + 1)) 0 else Number 0))
    × (cells (Own 0) (entry_offset k + 12) 4 ≡ Some (Number rows))
