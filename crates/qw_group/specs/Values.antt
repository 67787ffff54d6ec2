-- What the block promises that reads a set function's value out of its area, at the end (ISO/IEC 9075:1992, 6.5).
use Rattle.std.specs.Prelude.{◌≡◌, ℕ, ◌+◌, ◌*◌, ◌<◌, ◌≤◌, ◌^◌, Bool, true, false, List, [], ◌∷◌, length, Some, slice_get}
use Rattle.qw_types.specs.declared.kind.Kind.{Kind}
use Rattle.qw_types.specs.declared.kind.Kind.TheVariants as kind
use Rattle.qw_types.specs.declared.value.Val.{Val}
use Rattle.qw_grouped.specs.SetFunctions.{set_function_value}
use Rattle.qw_grouped.specs.declared.set_function.SetFunctionKind.{SetFunctionKind}
use Rattle.qw_grouped.specs.declared.set_function.SetFunctionKind.TheVariants.{CountRows, Count, Sum, Avg, Min, Max}
use Rattle.qw_module.specs.declared.instruction.ValType.{ValType}
use Rattle.qw_module.specs.declared.instruction.ValType.TheVariants.{I32, I64}
use Rattle.qw_low.specs.Syntax.{Statement}
use Rattle.qw_low.specs.State.{Own, Address, LowState}
use Rattle.qw_low.specs.Meaning.{meaning}
use Rattle.qw_low.specs.Typing.{IsTyped}
use Rattle.qw_low.specs.Size.{size}
use Rattle.qw_low.specs.Promise.{Ends}
use Rattle.qw_low.specs.Raising.{Leaves, Raises, Kept}
use Rattle.qw_table.specs.Entries.{Declares, HoldsValue, Stands, cell_from}
use Rattle.qw_group.specs.Areas.{HasAggregate}

-- a count is never null
abbrev pub may_be_null : SetFunctionKind → Bool
may_be_null CountRows = false
may_be_null Count = false
may_be_null Sum = true
may_be_null Avg = true
may_be_null Min = true
may_be_null Max = true

-- the type of the value's local: of a text its address
abbrev pub chosen_type : Kind → ValType
chosen_type (kind.Number s) = I64
chosen_type kind.Date = I64
chosen_type kind.Text = I32

abbrev pub value_type : SetFunctionKind → Kind → ValType
value_type CountRows kd = I64
value_type Count kd = I64
value_type Sum kd = I64
value_type Avg kd = I64
value_type Min kd = chosen_type kd
value_type Max kd = chosen_type kd

-- the types of the block's own locals: the null word, the value and a text's length; and those that an average and a sum want
abbrev pub value_types : SetFunctionKind → Kind → List ValType
value_types function kd = I32 ∷ value_type function kd ∷ I32 ∷ I32 ∷ I64 ∷ I64 ∷ I64 ∷ I32 ∷ []

-- what reading a value takes beside one: the low word of a long sum is divided in 16 turns, of four bits each
abbrev pub read_units : SetFunctionKind → ℕ
read_units CountRows = 0
read_units Count = 0
read_units Sum = 0
read_units Avg = 16
read_units Min = 0
read_units Max = 0

-- A block that begins where a local leads to an entry, an area of which has taken fewer than 10^18 values: the value of the set function is in the three
-- locals from `free` on, or its exception is raised, within its size times one more than these units. Nothing else is changed.
pub record ReadsValue (function : SetFunctionKind) (kd : Kind) (at entry free : ℕ) (a : Statement) : Type 0 where
  pub runs : (most fuel k o : ℕ) (s : LowState) (values : List Val) → read_units function < fuel → length values < 10 ^ 18 → slice_get s.locals entry ≡ Some (Address (Own k) o) → HasAggregate (Stands s) function kd values s.cells k (o + at) →
      free + 8 ≤ length s.locals →
      Ends (size a * (1 + read_units function)) (Leaves (λ v t. Kept free s t × HoldsValue (cell_from free (may_be_null function)) v t) (set_function_value function values)) (λ t. ⊥) (Raises (set_function_value function values)) (meaning most fuel a s)
  pub typed : (types : List ValType) → slice_get types entry ≡ Some I32 → Declares types free (value_types function kd) → IsTyped types a
  pub short : size a ≤ 160
