-- What the locals of a value hold, and how they are declared.
use Rattle.std.specs.Prelude.{◌≡◌, ℕ, ◌+◌, ◌<◌, ◌≤◌, unsigned_abs, IsTrue, Option, Some, None, List, slice_get}
use Rattle.qw_types.specs.Arithmetic.{fits}
use Rattle.qw_types.specs.declared.kind.Kind.{Kind}
use Rattle.qw_types.specs.declared.kind.Kind.TheVariants as kind
use Rattle.qw_types.specs.declared.truth.Truth.{Truth}
use Rattle.qw_types.specs.declared.truth.Truth.TheVariants.{True, False, Unknown}
use Rattle.qw_types.specs.declared.value.Val.{Val}
use Rattle.qw_types.specs.declared.value.Val.TheVariants.{Null, Num, Date, Text}
use Rattle.qw_module.specs.declared.instruction.ValType.{ValType}
use Rattle.qw_module.specs.declared.instruction.ValType.TheVariants.{I32, I64}
use Rattle.qw_low.specs.declared.cell.Cell.{Cell}
use Rattle.qw_low.specs.State.{Number, LowState}
use Rattle.qw_low.specs.Held.{HoldsNumber, HoldsText, SaysNull, SaysValue}
use Rattle.qw_expr.specs.declared.operand.Operand.{Operand}

-- a value: null by its null word alone; a number of at most 18 digits and a date as values of 64 bits; a text by its address and length
abbrev pub HoldsValue : Cell → Val → LowState → Type 0
HoldsValue c Null s = SaysNull s c.null
HoldsValue c (Num v) s = HoldsNumber s c.value v × IsTrue (fits v) × SaysValue s c.null
HoldsValue c (Date d) s = HoldsNumber s c.value d × SaysValue s c.null
HoldsValue c (Text t) s = HoldsText s c.value c.length t × SaysValue s c.null

-- a truth: 1 where it is true, and else 0, with 1 in the null word where it is unknown
abbrev pub HoldsTruth : Cell → Truth → LowState → Type 0
HoldsTruth c True s = (slice_get s.locals c.value ≡ Some (Number 1)) × SaysValue s c.null
HoldsTruth c False s = (slice_get s.locals c.value ≡ Some (Number 0)) × SaysValue s c.null
HoldsTruth c Unknown s = (slice_get s.locals c.value ≡ Some (Number 0)) × SaysNull s c.null

-- a number of at most a magnitude
abbrev pub IsWithin : (most : ℕ) → Val → Type 0
IsWithin most Null = Unit {0}
IsWithin most (Num v) = unsigned_abs v ≤ most
IsWithin most (Date d) = Unit {0}
IsWithin most (Text t) = Unit {0}

abbrev pub Holds : Operand → Val → LowState → Type 0
Holds o v s = HoldsValue o.cell v s × IsWithin o.most v

-- the locals of a value are below one
abbrev pub IsBelowNull : ℕ → Option ℕ → Type 0
IsBelowNull n None = Unit {0}
IsBelowNull n (Some x) = x < n

abbrev pub IsBelow : ℕ → Cell → Type 0
IsBelow n c = (c.value < n) × (c.length < n) × IsBelowNull n c.null

-- the types of the locals of a value: i64 for a number and a date, i32 for an address, a length, a truth and a null word
abbrev pub DeclaresNull : List ValType → Option ℕ → Type 0
DeclaresNull types None = Unit {0}
DeclaresNull types (Some x) = slice_get types x ≡ Some I32

abbrev pub DeclaresKind : List ValType → Cell → Option Kind → Type 0
DeclaresKind types c None = Unit {0}
DeclaresKind types c (Some (kind.Number s)) = slice_get types c.value ≡ Some I64
DeclaresKind types c (Some kind.Date) = slice_get types c.value ≡ Some I64
DeclaresKind types c (Some kind.Text) = (slice_get types c.value ≡ Some I32) × (slice_get types c.length ≡ Some I32)

abbrev pub DeclaresValue : List ValType → Operand → Type 0
DeclaresValue types o = DeclaresKind types o.cell o.kind × DeclaresNull types o.cell.null

abbrev pub DeclaresTruth : List ValType → Cell → Type 0
DeclaresTruth types c = (slice_get types c.value ≡ Some I32) × DeclaresNull types c.null

-- the locals from one on are declared of these types
abbrev pub Declares : List ValType → (from : ℕ) → List ValType → Type 0
Declares types from own = (i : ℕ) (t : ValType) → slice_get own i ≡ Some t → slice_get types (from + i) ≡ Some t
