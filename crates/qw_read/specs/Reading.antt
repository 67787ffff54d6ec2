-- What blocks promise that read the columns of a row into locals (docs/FORMATS.md has the columns and the descriptor).
use Rattle.std.specs.Prelude.{◌≡◌, ◌≢◌, ℕ, ◌+◌, ◌-◌, ◌*◌, ◌/◌, ◌^◌, ◌<◌, ◌≤◌, Bool, true, false, List, [], ◌∷◌, length, map, Option, Some, None, slice_get}
use Rattle.std.specs.List.{AllByRecursion}
use Rattle.qw_types.specs.Kind.{type_kind}
use Rattle.qw_types.specs.Value.{IsSized, IsOfTypeOrNull, type_scale}
use Rattle.qw_types.specs.declared.value.Ty.{Ty}
use Rattle.qw_types.specs.declared.value.Ty.TheVariants as ty
use Rattle.qw_types.specs.declared.value.Val.{Val}
use Rattle.qw_types.specs.declared.value.Val.TheVariants as val
use Rattle.qw_scalar.specs.Expression.{column}
use Rattle.qw_module.specs.declared.instruction.ValType.{ValType}
use Rattle.qw_module.specs.declared.instruction.ValType.TheVariants.{I32}
use Rattle.qw_map.specs.Columns.{values_size}
use Rattle.qw_map.specs.Layout.{is_text}
use Rattle.qw_map.specs.declared.layout.Used.{Used}
use Rattle.qw_low.specs.Syntax.{Statement}
use Rattle.qw_low.specs.State.{Column, Own, Number, Address, Cells, LowState}
use Rattle.qw_low.specs.Meaning.{meaning}
use Rattle.qw_low.specs.Size.{size}
use Rattle.qw_low.specs.Typing.{IsTyped}
use Rattle.qw_low.specs.Begin.{KnowsValue, KnowsNull, KnowsEntry}
use Rattle.qw_low.specs.Promise.{Ends}
use Rattle.qw_low.specs.Raising.{Kept}
use Rattle.qw_expr.specs.Cells.{Holds, DeclaresValue}
use Rattle.qw_expr.specs.Computes.{Known, AreHeld}
use Rattle.qw_expr.specs.declared.operand.Operand.{Operand}
use Rattle.qw_read.specs.declared.reader.Reader.{Reader}

-- ---- what was read

-- the greatest magnitude of a type's numbers (ISO/IEC 9075:1992, 4.4), 0 where its values are no numbers
abbrev pub most_of : Ty → ℕ
most_of ty.Integer = 2 ^ 31
most_of (ty.Decimal precision scale) = 10 ^ precision - 1
most_of ty.Date = 0
most_of (ty.Varchar limit) = 0

abbrev pub operand_of : Reader → Operand
operand_of r = record { cell = r.cell; kind = Some (type_kind r.ty); scale = type_scale r.ty; most = most_of r.ty }

-- the column, as an expression that is known
abbrev pub known_of : Reader → Known
known_of r = record { expression = column r.column r.ty; operand = operand_of r }

-- there is a null word exactly where the column may be null
abbrev pub HasNullWord : (not_null : Bool) → Option ℕ → Type 0
HasNullWord true null = null ≡ None
HasNullWord false null = (x : ℕ) × (null ≡ Some x)

-- ---- where it stands

-- the octets of a text; another value has none
abbrev pub octets_of : Val → List ℕ
octets_of val.Null = []
octets_of (val.Num n) = []
octets_of (val.Date n) = []
octets_of (val.Text octets) = octets

-- a part of a column has so many octets at least, and fewer than 2^32
abbrev pub HasOctets : List ℕ → (part least : ℕ) → Type 0
HasOctets columns part least = (count : ℕ) × (slice_get columns part ≡ Some count) × (least ≤ count) × (count < 2 ^ 32)

-- At a row, of the column of this index, the value is known and whether it is null; it is of the column's type; and it lies in the
-- column's parts.
pub record StandsAt (cells : Cells) (columns : List ℕ) (k : ℕ) (type : Ty) (not_null : Bool) (row : ℕ) (v : Val) : Type 0 where
  pub value : KnowsValue cells k type row v
  pub null : KnowsNull cells k row not_null v
  pub typed : IsOfTypeOrNull type not_null v
  pub values : HasOctets columns (3 * k) (values_size type (row + 1))
  pub nulls : not_null ≡ false → HasOctets columns (3 * k + 2) (row / 8 + 1)
  pub octets : is_text type ≡ true → (from : ℕ) → cells (Column (3 * k)) (4 * row) 4 ≡ Some (Number from) →
      HasOctets columns (3 * k + 1) (from + length (octets_of v))
  pub words : (x : ℕ) → cells (Column (3 * k)) (8 * row) 8 ≡ Some (Number x) → x < 2 ^ 64

-- the offset of a row's value in the part; of a text it is that of where it begins
abbrev pub place_of : Ty → (row : ℕ) → ℕ
place_of ty.Integer row = 4 * row
place_of (ty.Decimal precision scale) row = 8 * row
place_of ty.Date row = 4 * row
place_of (ty.Varchar limit) row = 4 * row

-- ---- locals

-- the locals for the addresses of a column's parts, of those that it has, are from one on, below another, and apart
pub record AreBases (from below : ℕ) (r : Reader) : Type 0 where
  pub values : (from ≤ r.values) × (r.values < below)
  pub octets : is_text r.ty ≡ true → (from ≤ r.octets) × (r.octets < below) × (r.octets ≢ r.values)
  pub nulls : r.not_null ≡ false → (from ≤ r.nulls) × (r.nulls < below) × (r.nulls ≢ r.values) × (is_text r.ty ≡ true → r.nulls ≢ r.octets)

-- So are those of its value; a length is below the other one also where it isn't used.
pub record IsCellIn (from below : ℕ) (r : Reader) : Type 0 where
  pub value : (from ≤ r.cell.value) × (r.cell.value < below)
  pub long : r.cell.length < below
  pub text : is_text r.ty ≡ true → (from ≤ r.cell.length) × (r.cell.length ≢ r.cell.value)
  pub null : (x : ℕ) → r.cell.null ≡ Some x → (from ≤ x) × (x < below) × (x ≢ r.cell.value) × (is_text r.ty ≡ true → x ≢ r.cell.length)

-- They hold the addresses: of the values, the one where that of one more row than there are would stand.
pub record HasBases (rows : ℕ) (r : Reader) (s : LowState) : Type 0 where
  pub values : slice_get s.locals r.values ≡ Some (Address (Column (3 * r.index)) (place_of r.ty rows))
  pub octets : is_text r.ty ≡ true → slice_get s.locals r.octets ≡ Some (Address (Column (3 * r.index + 1)) 0)
  pub nulls : r.not_null ≡ false → slice_get s.locals r.nulls ≡ Some (Address (Column (3 * r.index + 2)) 0)

-- a local below `n` says how many rows there are: it holds four times their number
abbrev pub HasEnd : (n rows : ℕ) → Reader → LowState → Type 0
HasEnd n rows r s = (r.end < n) × (slice_get s.locals r.end ≡ Some (Number (4 * rows)))

-- and another one which of them is read: how many are left with it
pub record IsAtRow (n rows row : ℕ) (r : Reader) (s : LowState) : Type 0 where
  pub within : row < rows
  pub end : HasEnd n rows r s
  pub left : (r.left < n) × (slice_get s.locals r.left ≡ Some (Number (4 * (rows - row))))

-- the locals for the addresses are declared as i32
pub record DeclaresBases (types : List ValType) (r : Reader) : Type 0 where
  pub values : slice_get types r.values ≡ Some I32
  pub octets : is_text r.ty ≡ true → slice_get types r.octets ≡ Some I32
  pub nulls : r.not_null ≡ false → slice_get types r.nulls ≡ Some I32

-- ---- what the blocks promise

-- A block that begins where the first local holds the first page's address, whose descriptor has the column's entry, and a local below `n`
-- says how many rows there are, of which each has a place among the values. It leaves the addresses of the column's parts in their locals,
-- and changes nothing else.
pub record Begins (r : Reader) (a : Statement) : Type 0 where
  pub runs : (pages fuel n rows : ℕ) (used : Used) (s : LowState) → used.ty ≡ r.ty → used.not_null ≡ r.not_null → KnowsEntry s.cells r.index used rows →
      HasOctets s.columns (3 * r.index) (values_size r.ty rows) → slice_get s.locals 0 ≡ Some (Address (Own 0) 0) → 1 ≤ n → HasEnd n rows r s → AreBases n (length s.locals) r →
      Ends (size a) (λ t. Kept n s t × HasBases rows r t) (λ t. ⊥) (λ code. ⊥) (meaning pages fuel a s)
  pub typed : (types : List ValType) → slice_get types 0 ≡ Some I32 → slice_get types r.end ≡ Some I32 → DeclaresBases types r → IsTyped types a
  pub short : size a ≤ 13

-- A block that begins where these addresses are in locals below `n`, and locals below `n` say which row is read. It leaves the row's value of
-- the column in the locals of the cell, which are from `n` on, and changes nothing else.
pub record Reads (r : Reader) (a : Statement) : Type 0 where
  pub runs : (pages fuel n rows row : ℕ) (v : Val) (s : LowState) → StandsAt s.cells s.columns r.index r.ty r.not_null row v → IsSized r.ty → HasBases rows r s →
      IsAtRow n rows row r s → AreBases 0 n r → IsCellIn n (length s.locals) r →
      Ends (size a) (λ t. Kept n s t × Holds (operand_of r) v t) (λ t. ⊥) (λ code. ⊥) (meaning pages fuel a s)
  pub typed : (types : List ValType) → slice_get types r.left ≡ Some I32 → slice_get types r.end ≡ Some I32 → DeclaresBases types r → DeclaresValue types (operand_of r) → IsTyped types a
  pub short : size a ≤ 39

-- ---- the same of several columns

-- the locals for their parts are behind one another
abbrev pub AreBasesIn : (from below : ℕ) → List Reader → Type 0
AreBasesIn from below [] = from ≤ below
AreBasesIn from below (r ∷ readers) = (next : ℕ) × AreBases from next r × AreBasesIn next below readers

-- so are those of their values
abbrev pub AreCellsIn : (from below : ℕ) → List Reader → Type 0
AreCellsIn from below [] = from ≤ below
AreCellsIn from below (r ∷ readers) = (next : ℕ) × IsCellIn from next r × AreCellsIn next below readers

-- the descriptor has the column's entry, of so many rows, of which each has a place among its values; a local below `n` says how many
pub record HasEntryOf (n rows : ℕ) (s : LowState) (r : Reader) : Type 0 where
  pub used : Used
  pub type_is : used.ty ≡ r.ty
  pub null_is : used.not_null ≡ r.not_null
  pub entry : KnowsEntry s.cells r.index used rows
  pub values : HasOctets s.columns (3 * r.index) (values_size r.ty rows)
  pub end : HasEnd n rows r s

-- At the row that locals below `n` say, the column has the value that the query's row has, and the addresses of its parts are in
-- locals below `n`.
pub record IsThere (n rows : ℕ) (values : List Val) (s : LowState) (r : Reader) : Type 0 where
  pub row : ℕ
  pub v : Val
  pub value_is : slice_get values r.column ≡ Some v
  pub stands : StandsAt s.cells s.columns r.index r.ty r.not_null row v
  pub sized : IsSized r.ty
  pub bases : HasBases rows r s
  pub at_row : IsAtRow n rows row r s
  pub bases_below : AreBases 0 n r

pub record BeginsAll (readers : List Reader) (a : Statement) : Type 0 where
  pub runs : (pages fuel n rows : ℕ) (s : LowState) → AllByRecursion (HasEntryOf n rows s) readers → slice_get s.locals 0 ≡ Some (Address (Own 0) 0) → 1 ≤ n →
      AreBasesIn n (length s.locals) readers →
      Ends (size a) (λ t. Kept n s t × AllByRecursion (λ r. HasBases rows r t) readers) (λ t. ⊥) (λ code. ⊥) (meaning pages fuel a s)
  pub typed : (types : List ValType) → slice_get types 0 ≡ Some I32 → AllByRecursion (λ (r : Reader). (slice_get types r.end ≡ Some I32) × DeclaresBases types r) readers → IsTyped types a
  pub short : size a ≤ 13 * length readers

-- a row's values of the columns are held, as what expressions may know
pub record ReadsAll (readers : List Reader) (a : Statement) : Type 0 where
  pub runs : (pages fuel n rows : ℕ) (values : List Val) (s : LowState) → AllByRecursion (IsThere n rows values s) readers → AreCellsIn n (length s.locals) readers →
      Ends (size a) (λ t. Kept n s t × AreHeld (map known_of readers) values t) (λ t. ⊥) (λ code. ⊥) (meaning pages fuel a s)
  pub typed : (types : List ValType) → AllByRecursion (λ (r : Reader). (slice_get types r.left ≡ Some I32) × (slice_get types r.end ≡ Some I32) × DeclaresBases types r × DeclaresValue types (operand_of r)) readers → IsTyped types a
  pub short : size a ≤ 39 * length readers
