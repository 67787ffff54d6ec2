-- The state of a Low run. It knows no address of the linear memory: an address is a part of the memory and an offset in it.
use Rattle.std.specs.Prelude.{ℕ, ◌+◌, ◌%◌, ◌^◌, ◌*◌, ◌==◌, nat_le, ◌&&◌, ◌||◌, if◌then◌else◌, Bool, false, List, [], ◌∷◌, ◌++◌, length, Option, Some, None, slice_get}
use Rattle.qw_module.specs.declared.instruction.ValType.TheVariants.{I32, I64}
use Rattle.qw_module.specs.declared.instruction.Load.{Load}
use Rattle.qw_module.specs.declared.instruction.Load.TheVariants as load
use Rattle.qw_module.specs.declared.instruction.Store.{Store}
use Rattle.qw_module.specs.declared.instruction.Store.TheVariants as store
use Rattle.qw_linear.specs.Memory.{page}
use Rattle.qw_module.specs.Numbers.{loaded_value, store_width}

-- A part of the memory: a part of a column that the layout uses, or one of an instance's own: the first page, and then each grant.
-- Of the layout's column k, `Column (3 * k)` is its values, `Column (3 * k + 1)` the octets of its texts, and `Column (3 * k + 2)` its
-- null bits.
pub data Part : Type 0 where
  Column : ℕ → Part
  Own : ℕ → Part

-- What a local or a cell holds. An address is at most the size of its part: it may stand where the part ends.
pub data Value : Type 0 where
  Number : ℕ → Value
  Address : Part → (offset : ℕ) → Value

abbrev pub same_part : Part → Part → Bool
same_part (Column a) (Column b) = a == b
same_part (Own a) (Own b) = a == b
same_part _ _ = false

-- What is known of so many octets of a part from an offset on: the value that they hold, if it is known.
abbrev pub Cells : Type 0
Cells = Part → (offset width : ℕ) → Option Value

-- The locals; what is known of memory; how many octets the columns' parts and the own parts have; how many pages are held, how
-- many may be, and the last request that was refused.
pub record LowState : Type 0 where
  pub locals : List Value
  pub cells : Cells
  pub columns : List ℕ
  pub own : List ℕ
  pub held : ℕ
  pub limit : ℕ
  pub refused : Option ℕ

-- how many octets a part has
abbrev pub size_of : LowState → Part → Option ℕ
size_of s (Column k) = slice_get s.columns k
size_of s (Own k) = slice_get s.own k

-- an offset lies in a part of this size, or where it ends
abbrev pub is_within : Option ℕ → (offset : ℕ) → Bool
is_within None offset = false
is_within (Some size) offset = nat_le offset size

-- what a load makes of a value (Core 1.0, 4.4.4): an address is loaded whole, as an i32
abbrev pub loaded_as : Load → Value → Option Value
loaded_as l (Number n) = Some (Number (loaded_value l n))
loaded_as (load.Full I32) (Address p offset) = Some (Address p offset)
loaded_as (load.Full I64) (Address p offset) = None
loaded_as (load.From8 type sign) (Address p offset) = None
loaded_as (load.From16 type sign) (Address p offset) = None
loaded_as (load.I64From32 sign) (Address p offset) = None

-- what a store leaves of a value: the low octets of a number, and an address whole (4.4.4)
abbrev pub stored_as : Store → Value → Option Value
stored_as st (Number n) = Some (Number (n % 2 ^ (8 * store_width st)))
stored_as (store.Full I32) (Address p offset) = Some (Address p offset)
stored_as (store.Full I64) (Address p offset) = None
stored_as (store.To8 type) (Address p offset) = None
stored_as (store.To16 type) (Address p offset) = None
stored_as store.I64To32 (Address p offset) = None

-- Cells after a store: what overlaps the stored octets, but for these alone, is no longer known.
abbrev pub with_cell : Cells → Part → (offset width : ℕ) → Value → Cells
with_cell cells p o width v q a b =
    if same_part p q
    then (if (a == o) && (b == width) then Some v else (if nat_le (a + b) o || nat_le (o + width) a then cells q a b else None))
    else cells q a b

-- cells with a new own part, whose octets are 0
abbrev pub with_part : Cells → (part size : ℕ) → Cells
with_part cells k size q a b = if same_part (Own k) q then (if nat_le (a + b) size then Some (Number 0) else None) else cells q a b

-- the state with so many pages more, as an own part
abbrev pub with_pages : LowState → (pages : ℕ) → LowState
with_pages s pages = record s {
  cells = with_part s.cells (length s.own) (pages * page);
  own = s.own ++ pages * page ∷ [];
  held = s.held + pages;
}
