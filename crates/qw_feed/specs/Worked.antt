-- What the worked cases speak of.
use Rattle.std.specs.Prelude.{◌≡◌, ℕ, ◌+◌, ◌==◌, nat_le, ◌&&◌, if◌then◌else◌, pos, List, [], ◌∷◌, length, Option, Some, None, slice_get}
use Rattle.qw_types.specs.declared.kind.Kind.TheVariants as kind
use Rattle.qw_types.specs.declared.value.Val.{Val}
use Rattle.qw_types.specs.declared.value.Val.TheVariants as val
use Rattle.qw_module.specs.declared.instruction.ValType.TheVariants.{I64}
use Rattle.qw_module.specs.declared.instruction.Const.TheVariants as const
use Rattle.qw_module.specs.declared.instruction.Binary.TheVariants.{Add}
use Rattle.qw_low.specs.Syntax.{constant_of, local, binop, Statement, skip, assign}
use Rattle.qw_low.specs.State.{Column, Own, Value, Number, Address, Cells, LowState}
use Rattle.qw_feed.specs.Cells.{Source, HasRow}
use Rattle.qw_feed.specs.Feeds.{Sink}
use Rattle.qw_feed.specs.Frames.{Before}
use Rattle.qw_feed.specs.Room.{i32}
use Rattle.qw_feed.specs.Rows.{Row}
use Rattle.qw_feed.specs.Stages.{Test, Item}

-- a row of one number, and where one stands
abbrev pub number : ℕ → List Val
number n = val.Num (pos n) ∷ []

abbrev pub row_at : (offset n : ℕ) → Row
row_at offset n = record { part = 0; offset = offset; values = number n }

-- rows of one number have a cell of 16 octets, and no text
abbrev pub HasOne : Cells → (part offset : ℕ) → List Val → Type 0
HasOne = HasRow (λ p offset octets. ⊥) (Some (kind.Number 0) ∷ [])

-- the first page: 5 in a row at 64, which the word at 8 leads to, 7 in the next one at 88, and zeros from 112 on
abbrev pub word_at : (offset : ℕ) → Option Value
word_at offset =
    if offset == 8 then Some (Address (Own 0) 64)
    else (if offset == 64 then Some (Address (Own 0) 88)
    else (if offset == 88 then Some (Number 0) else None))

abbrev pub number_at : (offset : ℕ) → Option Value
number_at offset = if offset == 72 then Some (Number 5) else (if offset == 96 then Some (Number 7) else None)

abbrev pub null_at : (offset : ℕ) → Option Value
null_at offset = if offset == 80 then Some (Number 0) else (if offset == 104 then Some (Number 0) else None)

abbrev pub page_cells : (offset width : ℕ) → Option Value
page_cells offset width =
    if nat_le 112 offset && nat_le (offset + width) 65536 then Some (Number 0)
    else (if width == 4 then word_at offset else (if width == 8 then number_at offset else (if width == 1 then null_at offset else None)))

abbrev pub cells : Cells
cells (Column k) offset width = None
cells (Own k) offset width = page_cells offset width

-- One page with these two rows: the locals are its address, the first free address, how many octets are free, the address of the last link, the
-- number of rows, and 2.
abbrev pub two_rows : LowState
two_rows = record {
  locals = Address (Own 0) 0 ∷ Address (Own 0) 112 ∷ Number 65424 ∷ Address (Own 0) 88 ∷ Number 2 ∷ Number 2 ∷ [];
  cells = cells;
  columns = [];
  own = 65536 ∷ [];
  held = 1;
  limit = 128;
  refused = None;
}

-- a sink that counts its rows in local 4, of any number, and spares the first 64 octets; and a block that counts one
abbrev pub counted : Sink
counted = record {
  Spared = Before 64;
  Has = λ rows s. slice_get s.locals 4 ≡ Some (Number (length rows));
  May = λ rows. Unit {0};
  beginnings = λ rows more may. tt;
}

abbrev pub count_one : Statement
count_one = assign 4 (binop I64 Add (local 4) (constant_of (const.I64 1)))

-- a number in local 5, which is never null; an item that puts 7 there; and a conjunct that is true
abbrev pub in_local : Source
in_local = record { cell = record { value = 5; length = 5; null = None }; kind = Some (kind.Number 0) }

abbrev pub seven : Item
seven = record { out = in_local; block = assign 5 (constant_of (const.I64 7)) }

abbrev pub always : Test
always = record { out = i32 1; block = skip }
