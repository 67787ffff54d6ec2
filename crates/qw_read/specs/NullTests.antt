-- What a block promises that tests whether one of some columns is null at a row, before their values are read; and how such columns are read
-- where none is (docs/FORMATS.md has null bits).
use Rattle.std.specs.Prelude.{◌≡◌, ℕ, ◌+◌, ◌*◌, ◌≤◌, ◌||◌, Bool, true, false, not, List, [], ◌∷◌, ◌++◌, length, Some, None, slice_get}
use Rattle.std.specs.List.{AllByRecursion}
use Rattle.qw_types.specs.declared.value.Val.{Val}
use Rattle.qw_types.specs.declared.value.Val.TheVariants as val
use Rattle.qw_scalar.specs.Evaluation.{cell_of}
use Rattle.qw_module.specs.declared.instruction.ValType.{ValType}
use Rattle.qw_module.specs.declared.instruction.ValType.TheVariants.{I32}
use Rattle.qw_module.specs.Numbers.{truth}
use Rattle.qw_low.specs.Syntax.{Expression, Statement}
use Rattle.qw_low.specs.State.{Number, LowState}
use Rattle.qw_low.specs.Meaning.{value, meaning}
use Rattle.qw_low.specs.Size.{size}
use Rattle.qw_low.specs.Steps.{expression_steps, steps_of}
use Rattle.qw_low.specs.Typing.{HasType, IsTyped}
use Rattle.qw_low.specs.Promise.{Ends}
use Rattle.qw_low.specs.Raising.{Kept}
use Rattle.qw_expr.specs.Cells.{Declares}
use Rattle.qw_read.specs.Reading.{DeclaresBases, IsThere}
use Rattle.qw_read.specs.declared.reader.Reader.{Reader}

-- ---- nulls of a row
abbrev pub is_null_value : Val → Bool
is_null_value val.Null = true
is_null_value (val.Num n) = false
is_null_value (val.Date n) = false
is_null_value (val.Text octets) = false

-- whether a row has null at a column
abbrev pub is_null_at : List Val → Reader → Bool
is_null_at values r = is_null_value (cell_of (slice_get values r.column))

-- whether it has at one of some
abbrev pub any_null : List Val → List Reader → Bool
any_null values [] = false
any_null values (r ∷ readers) = is_null_at values r || any_null values readers

-- the column, as it is read where it isn't null: as one that can't be null, without a null word
abbrev pub sure_reader : Reader → Reader
sure_reader r = record {
  index = r.index;
  column = r.column;
  ty = r.ty;
  not_null = true;
  values = r.values;
  octets = r.octets;
  nulls = r.nulls;
  left = r.left;
  end = r.end;
  cell = record { value = r.cell.value; length = r.cell.length; null = None };
}

-- ---- a test
-- a column that may be null, whose row the same locals say
pub record IsTestable (left end : ℕ) (r : Reader) : Type 0 where
  pub nullable : r.not_null ≡ false
  pub left_is : r.left ≡ left
  pub end_is : r.end ≡ end

-- its locals: the row, where among null octets its bit is, and the octets of the columns
abbrev pub octet_types : List Reader → List ValType
octet_types [] = []
octet_types (r ∷ readers) = I32 ∷ octet_types readers

abbrev pub test_types : List Reader → List ValType
test_types readers = I32 ∷ I32 ∷ octet_types readers

-- A block that begins where these columns stand at a row, and has locals of its own from `free` on: where it ends, the expression is 0 if one of
-- the columns is null at the row, and 1 if none is. Nothing else is changed.
pub record TestsNulls (readers : List Reader) (free : ℕ) (out : Expression) (a : Statement) : Type 0 where
  pub runs : (pages fuel rows : ℕ) (values : List Val) (s : LowState) → AllByRecursion (IsThere free rows values s) readers → free + 2 + length readers ≤ length s.locals →
      Ends (size a) (λ t. Kept free s t × (value t out ≡ Some (Number (truth (not (any_null values readers)))))) (λ t. ⊥) (λ code. ⊥) (meaning pages fuel a s)
  pub typed : (types : List ValType) → AllByRecursion (λ (r : Reader). (slice_get types r.left ≡ Some I32) × (slice_get types r.end ≡ Some I32) × DeclaresBases types r) readers → Declares types free (test_types readers) →
      IsTyped types a × HasType types out I32
  pub short : length (steps_of a ++ expression_steps out) ≤ 7 * length readers + 16
