-- What blocks promise that put the numbers and the dates of a query into locals (ISO/IEC 9075:1992, 5.3, numeric and date literals).
use Rattle.std.specs.Prelude.{ℕ, ℤ, ◌+◌, ◌*◌, ◌<◌, ◌≤◌, IsTrue, List, [], ◌∷◌, length, map}
use Rattle.std.specs.List.{AllByRecursion}
use Rattle.qw_types.specs.Arithmetic.{fits}
use Rattle.qw_types.specs.Kind.{IsDateNumber}
use Rattle.qw_types.specs.declared.value.Val.{Val}
use Rattle.qw_types.specs.declared.value.Val.TheVariants as val
use Rattle.qw_scalar.specs.Expression.{Expression, number, date}
use Rattle.qw_module.specs.declared.instruction.ValType.{ValType}
use Rattle.qw_low.specs.Syntax.{Statement}
use Rattle.qw_low.specs.State.{LowState}
use Rattle.qw_low.specs.Meaning.{meaning}
use Rattle.qw_low.specs.Size.{size}
use Rattle.qw_low.specs.Typing.{IsTyped}
use Rattle.qw_low.specs.Promise.{Ends}
use Rattle.qw_low.specs.Raising.{Kept}
use Rattle.qw_expr.specs.Cells.{Holds, DeclaresValue}
use Rattle.qw_expr.specs.Computes.{Known, AreHeld}
use Rattle.qw_expr.specs.Literals.{date_operand, number_operand}
use Rattle.qw_expr.specs.declared.operand.Operand.{Operand}
use Rattle.qw_read.specs.declared.constant.Constant.{Constant}
use Rattle.qw_read.specs.declared.constant.Word.{Word}
use Rattle.qw_read.specs.declared.constant.Word.TheVariants as word

-- ---- what is known
abbrev pub literal_of : Word → Expression
literal_of (word.Number v s) = number v s
literal_of (word.Date d) = date d

abbrev pub operand_at : (local : ℕ) → Word → Operand
operand_at x (word.Number v s) = number_operand x v s
operand_at x (word.Date d) = date_operand x

abbrev pub constant_operand : Constant → Operand
constant_operand c = operand_at c.local c.word

-- the literal, as an expression that is known
abbrev pub known_constant : Constant → Known
known_constant c = record { expression = literal_of c.word; operand = constant_operand c }

-- its value, and how the word of 64 bits is read
abbrev pub word_value : Word → ℤ
word_value (word.Number v s) = v
word_value (word.Date d) = d

abbrev pub means : Word → Val
means (word.Number v s) = val.Num v
means (word.Date d) = val.Date d

-- a number of at most 18 digits, and a date of the calendar's years
abbrev pub IsSmall : Word → Type 0
IsSmall (word.Number v s) = IsTrue (fits v)
IsSmall (word.Date d) = IsDateNumber d

-- ---- locals

-- their locals are behind one another
abbrev pub AreConstantsIn : (from below : ℕ) → List Constant → Type 0
AreConstantsIn from below [] = from ≤ below
AreConstantsIn from below (c ∷ constants) = (from ≤ c.local) × (c.local < below) × AreConstantsIn (c.local + 1) below constants

-- the local holds the literal
abbrev pub IsSet : LowState → Constant → Type 0
IsSet s c = Holds (constant_operand c) (means c.word) s

-- ---- what the blocks promise

-- A block that begins anywhere. It leaves the literal in its local, and changes nothing else.
pub record Sets (c : Constant) (a : Statement) : Type 0 where
  pub runs : (pages fuel n : ℕ) (s : LowState) → IsSmall c.word → n ≤ c.local → c.local < length s.locals →
      Ends (size a) (λ t. Kept n s t × IsSet t c) (λ t. ⊥) (λ code. ⊥) (meaning pages fuel a s)
  pub typed : (types : List ValType) → IsSmall c.word → DeclaresValue types (constant_operand c) → IsTyped types a
  pub short : size a ≤ 2

-- The same of several. After it they are held at every row.
pub record SetsAll (constants : List Constant) (a : Statement) : Type 0 where
  pub runs : (pages fuel n : ℕ) (s : LowState) → AllByRecursion (λ (c : Constant). IsSmall c.word) constants → AreConstantsIn n (length s.locals) constants →
      Ends (size a) (λ t. Kept n s t × AllByRecursion (IsSet t) constants × ((row : List Val) → AreHeld (map known_constant constants) row t)) (λ t. ⊥) (λ code. ⊥)
      (meaning pages fuel a s)
  pub typed : (types : List ValType) → AllByRecursion (λ (c : Constant). IsSmall c.word) constants → AllByRecursion (λ (c : Constant). DeclaresValue types (constant_operand c)) constants → IsTyped types a
  pub short : size a ≤ 2 * length constants
