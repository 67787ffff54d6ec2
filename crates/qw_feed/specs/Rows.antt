-- The rows of a query's result, which are chained in the order in which they are fed (docs/FORMATS.md), as a sink; the blocks of Low that add a
-- row, and what the descriptor has at the end. The locals from 0 on are the first page's address, the first free address, how many octets are
-- free behind it, the address of the last link, and the number of rows.
use Rattle.std.specs.Prelude.{◌≡◌, ℕ, suc, ◌+◌, ◌*◌, ◌≤◌, ◌⊎◌, List, [], ◌∷◌, ◌++◌, length, Some, slice_get}
use Rattle.qw_linear.specs.Memory.{page}
use Rattle.qw_types.specs.declared.value.Val.{Val}
use Rattle.qw_module.specs.declared.instruction.ValType.TheVariants.{I32, I64}
use Rattle.qw_module.specs.declared.instruction.Const.TheVariants as const
use Rattle.qw_module.specs.declared.instruction.Binary.TheVariants.{Add, Sub}
use Rattle.qw_module.specs.declared.instruction.Store.TheVariants as stores
use Rattle.qw_low.specs.Syntax.{constant_of, local, binop, is_zero, advance, Statement, skip, seq, assign, store, conditional}
use Rattle.qw_low.specs.State.{Column, Own, Value, Number, Address, Cells, LowState}
use Rattle.qw_low.specs.Meaning.{meaning}
use Rattle.qw_low.specs.Promise.{Ends}
use Rattle.qw_low.specs.Size as sizes
use Rattle.qw_feed.specs.Feeds.{Sink}
use Rattle.qw_feed.specs.Frames.{pos, Before, Outside, From, Keeps, Stored}
use Rattle.qw_feed.specs.Room.{i32, room_block, HasRoom, Paid}

-- ---- the blocks
-- no rows yet: a first one is linked to from the descriptor's word 8
abbrev pub begin_block : Statement
begin_block = seq (assign 3 (advance (local 0) (i32 8))) (assign 4 (constant_of (const.I64 0)))

-- the row at the first free address is linked to those before it, and counted
abbrev pub link_block : (size : ℕ) → Statement
link_block size =
    seq (store (stores.Full I32) 0 (local 3) (local 1))
    (seq (assign 3 (local 1))
    (seq (assign 1 (advance (local 1) (i32 size)))
    (seq (assign 2 (binop I32 Sub (local 2) (i32 size)))
    (assign 4 (binop I64 Add (local 4) (constant_of (const.I64 1)))))))

-- a row, whose cells a block stores
abbrev pub push_block : (size : ℕ) → (fill : Statement) → Statement
push_block size fill = seq (room_block size) (seq fill (link_block size))

-- the descriptor's words: the first free address, the last row if there is one, and the number of rows
abbrev pub finish_block : Statement
finish_block =
    seq (store (stores.Full I32) 0 (local 0) (local 1))
    (seq (conditional (is_zero I64 (local 4)) skip (store (stores.Full I32) 12 (local 0) (local 3)))
    (store (stores.Full I64) 16 (local 0) (local 4)))

-- ---- the chain
-- where a row stands, and its values
pub record Row : Type 0 where
  pub part : ℕ
  pub offset : ℕ
  pub values : List Val

abbrev pub address : Row → Value
address r = Address (Own r.part) r.offset

abbrev pub start_of : Row → ℕ
start_of r = pos r.part r.offset

-- the values of rows that stand with the newest first, in the order in which they came
abbrev pub in_order : List Row → List (List Val)
in_order [] = []
in_order (newest ∷ rows) = in_order rows ++ newest.values ∷ []

-- The newest first: each row has its values, as `Has` says, and stands behind the one before it, from `base` on, and that one's link leads to it;
-- the first one's address is the first page's word 8. The link of the newest one, or that word, is `next`.
abbrev pub AreRows : (Has : Cells → (part offset : ℕ) → List Val → Type 0) → (size : ℕ) → Cells → (base front : ℕ) → (next : Value) → List Row → Type 0
AreRows Has size c base front next [] = (base ≤ front) × (c (Own 0) 8 4 ≡ Some next)
AreRows Has size c base front next (r ∷ rs) =
    (c (Own r.part) r.offset 4 ≡ Some next) × Has c r.part r.offset r.values × (start_of r + size ≤ front) × (r.offset + size ≤ page)
    × AreRows Has size c base (start_of r) (address r) rs

-- where the newest row's link stands, or the first row's address
abbrev pub tail_part : List Row → ℕ
tail_part [] = 0
tail_part (r ∷ rs) = r.part

abbrev pub tail_offset : List Row → ℕ
tail_offset [] = 8
tail_offset (r ∷ rs) = r.offset

-- ---- the sink
-- all places below a base but the word that leads to the first row
abbrev pub BesideRoot : (base at width : ℕ) → Type 0
BesideRoot base at width = (at + width ≤ 8) ⊎ ((12 ≤ at) × (at + width ≤ base))

-- The result has these rows, of so many octets each, from `base` on; there is free space behind them; and what was placed pays for the pages:
-- the rows, and `before` octets before them.
pub record HasRows (Has : Cells → (part offset : ℕ) → List Val → Type 0) (size base u before : ℕ) (rows : List (List Val)) (s : LowState) : Type 0 where
  pub found : List Row
  pub values_are : in_order found ≡ rows
  pub part : ℕ
  pub offset : ℕ
  pub behind : 24 ≤ base
  pub room : HasRoom part offset s
  pub descriptor : slice_get s.locals 0 ≡ Some (Address (Own 0) 0)
  pub link : slice_get s.locals 3 ≡ Some (Address (Own (tail_part found)) (tail_offset found))
  pub count : slice_get s.locals 4 ≡ Some (Number (length found))
  pub chain : AreRows Has size s.cells base (pos part offset) (Number 0) found
  pub paid : Paid u (before + length found * size) offset s.held

abbrev pub rows_sink : (Has : Cells → (part offset : ℕ) → List Val → Type 0) → (size base u before : ℕ) → (May : List (List Val) → Type 0) →
    ((rows more : List (List Val)) → May (rows ++ more) → May rows) → Sink
rows_sink Has size base u before May beginnings = record { Spared = BesideRoot base; Has = HasRows Has size base u before; May = May; beginnings = beginnings }

-- a row's cells have been stored, and nothing beside them
abbrev pub Filled : (Has : Cells → (part offset : ℕ) → List Val → Type 0) → (size part offset : ℕ) → List Val → LowState → LowState → Type 0
Filled Has size part offset values t u = Stored (Outside (pos part (offset + 8)) (pos part (offset + size))) t u × Has u.cells part offset values

-- A block stores the cells of a row, wherever free space begins from `base` on: within its size they are there.
abbrev pub Fills : (Has : Cells → (part offset : ℕ) → List Val → Type 0) → (size base most fuel : ℕ) → List Val → (fill : Statement) → LowState → Type 0
Fills Has size base most fuel values fill s =
    (t : LowState) (part offset : ℕ) → Keeps (From 3) (Before base) s t → slice_get t.locals 1 ≡ Some (Address (Own part) offset) → slice_get t.own part ≡ Some page →
    offset + size ≤ page → base ≤ pos part offset → ((a b : ℕ) → offset ≤ a → a + b ≤ page → t.cells (Own part) a b ≡ Some (Number 0)) →
    Ends (sizes.size fill) (Filled Has size part offset values t) (λ u. ⊥) (λ code. ⊥) (meaning most fuel fill t)

-- the descriptor's words have been stored after these rows
pub record HasAnswer (Has : Cells → (part offset : ℕ) → List Val → Type 0) (size base : ℕ) (found : List Row) (s t : LowState) : Type 0 where
  pub others : t ≡ record s { cells = t.cells }
  pub mapped : (k a b : ℕ) → t.cells (Column k) a b ≡ s.cells (Column k) a b
  pub head : (a b : ℕ) → 24 ≤ a → t.cells (Own 0) a b ≡ s.cells (Own 0) a b
  pub part : ℕ
  pub last : length t.own ≡ suc part
  pub pages : (k : ℕ) → k ≤ part → slice_get t.own k ≡ Some page
  pub front : ℕ
  pub high : front ≤ pos part page
  pub count : t.cells (Own 0) 16 8 ≡ Some (Number (length found))
  pub rows : AreRows Has size t.cells base front (Number 0) found
