-- The cells of a row of a result or of an entry of a table (docs/FORMATS.md), the blocks of Low that store them behind the first free address,
-- and what locals supply for them.
use Rattle.std.specs.Prelude.{◌≡◌, ℕ, ◌+◌, ◌<◌, ◌^◌, ℤ, IsTrue, Option, Some, None, List, [], ◌∷◌, length, slice_get}
use Rattle.std.specs.Int.{w64, cast_signed}
use Rattle.qw_types.specs.Arithmetic.{fits}
use Rattle.qw_types.specs.declared.kind.Kind.{Kind}
use Rattle.qw_types.specs.declared.kind.Kind.TheVariants as kind
use Rattle.qw_types.specs.declared.value.Val.{Val}
use Rattle.qw_types.specs.declared.value.Val.TheVariants as val
use Rattle.qw_module.specs.declared.instruction.ValType.TheVariants.{I32, I64}
use Rattle.qw_module.specs.declared.instruction.Store.TheVariants as stores
use Rattle.qw_scalar.specs.Typing.{IsValueOf}
use Rattle.qw_low.specs.declared.cell.Cell.{Cell}
use Rattle.qw_low.specs.Syntax.{local, Statement, skip, seq, store, conditional}
use Rattle.qw_low.specs.State.{Part, Own, Value, Number, Address, Cells}
use Rattle.qw_feed.specs.Room.{i32}

-- where a value is, and of which kind it is: null alone where it has none
pub record Source : Type 0 where
  pub cell : Cell
  pub kind : Option Kind

abbrev pub kinds_of : List Source → List (Option Kind)
kinds_of [] = []
kinds_of (o ∷ os) = o.kind ∷ kinds_of os

-- ---- the blocks: a cell of 16 octets each, the first one so many octets behind the first free address
abbrev pub plain_block : Option Kind → Cell → (at : ℕ) → Statement
plain_block None c at = skip
plain_block (Some (kind.Number s)) c at = store (stores.Full I64) at (local 1) (local c.value)
plain_block (Some kind.Date) c at = store (stores.Full I64) at (local 1) (local c.value)
plain_block (Some kind.Text) c at = seq (store (stores.Full I32) at (local 1) (local c.value)) (store (stores.Full I32) (at + 4) (local 1) (local c.length))

abbrev pub cell_block : (null : Option ℕ) → (at : ℕ) → (plain : Statement) → Statement
cell_block None at plain = plain
cell_block (Some n) at plain = conditional (local n) (store (stores.To8 I32) (at + 8) (local 1) (i32 1)) plain

abbrev pub cells_block : (at : ℕ) → List Source → Statement
cells_block at [] = skip
cells_block at (o ∷ os) = seq (cell_block o.cell.null at (plain_block o.kind o.cell at)) (cells_block (at + 16) os)

-- ---- what locals supply of a value; a text lies where `Text` says
abbrev pub Says : List Value → (value : ℕ) → Option ℕ → Type 0
Says locals value None = Unit {0}
Says locals value (Some n) = slice_get locals n ≡ Some (Number value)

abbrev pub Lacks : List Value → Option ℕ → Type 0
Lacks locals None = ⊥
Lacks locals (Some n) = slice_get locals n ≡ Some (Number 1)

abbrev pub Word : List Value → (x : ℕ) → ℤ → Type 0
Word locals x v = (word : ℕ) × (slice_get locals x ≡ Some (Number word)) × (word < 2 ^ 64) × (cast_signed w64 word ≡ v)

abbrev pub Supplies : (Text : Part → (offset : ℕ) → List ℕ → Type 0) → List Value → Cell → Val → Type 0
Supplies Text locals c val.Null = Lacks locals c.null
Supplies Text locals c (val.Num v) = Word locals c.value v × IsTrue (fits v) × Says locals 0 c.null
Supplies Text locals c (val.Date d) = Word locals c.value d × Says locals 0 c.null
Supplies Text locals c (val.Text t) =
    (p : Part) × (o : ℕ) × (slice_get locals c.value ≡ Some (Address p o)) × (slice_get locals c.length ≡ Some (Number (length t))) × (length t < 2 ^ 32) × Text p o t × Says locals 0 c.null

abbrev pub AllSupply : (Text : Part → (offset : ℕ) → List ℕ → Type 0) → List Value → List Source → List Val → Type 0
AllSupply Text locals [] [] = Unit {0}
AllSupply Text locals (o ∷ os) (v ∷ vs) = (Supplies Text locals o.cell v × IsValueOf o.kind v) × AllSupply Text locals os vs
AllSupply Text locals _ _ = ⊥

-- the locals of a value are among these
abbrev pub UsesNull : (ℕ → Type 0) → Option ℕ → Type 0
UsesNull P None = Unit {0}
UsesNull P (Some n) = P n

abbrev pub Uses : (ℕ → Type 0) → Cell → Type 0
Uses P c = P c.value × P c.length × UsesNull P c.null

abbrev pub AllUse : (ℕ → Type 0) → List Source → Type 0
AllUse P [] = Unit {0}
AllUse P (o ∷ os) = Uses P o.cell × AllUse P os

-- ---- what cells hold: a number or a date as 64 bits, a text by its address and its length, and behind them an octet that is 1 of a null
abbrev pub HasNumber : Cells → (part at : ℕ) → ℤ → Type 0
HasNumber c k at v = (word : ℕ) × (c (Own k) at 8 ≡ Some (Number word)) × (word < 2 ^ 64) × (cast_signed w64 word ≡ v)

abbrev pub HasCell : (Text : Part → (offset : ℕ) → List ℕ → Type 0) → Cells → (part at : ℕ) → Val → Type 0
HasCell Text c k at val.Null = c (Own k) (at + 8) 1 ≡ Some (Number 1)
HasCell Text c k at (val.Num v) = HasNumber c k at v × IsTrue (fits v) × (c (Own k) (at + 8) 1 ≡ Some (Number 0))
HasCell Text c k at (val.Date d) = HasNumber c k at d × (c (Own k) (at + 8) 1 ≡ Some (Number 0))
HasCell Text c k at (val.Text t) =
    (p : Part) × (o : ℕ) × (c (Own k) at 4 ≡ Some (Address p o)) × (c (Own k) (at + 4) 4 ≡ Some (Number (length t))) × Text p o t × (c (Own k) (at + 8) 1 ≡ Some (Number 0))

abbrev pub HasCells : (Text : Part → (offset : ℕ) → List ℕ → Type 0) → Cells → (part at : ℕ) → List Val → Type 0
HasCells Text c k at [] = Unit {0}
HasCells Text c k at (v ∷ vs) = HasCell Text c k at v × HasCells Text c k (at + 16) vs

-- values of these kinds, one for one
abbrev pub AreOfKinds : List (Option Kind) → List Val → Type 0
AreOfKinds [] [] = Unit {0}
AreOfKinds (k ∷ ks) (v ∷ vs) = IsValueOf k v × AreOfKinds ks vs
AreOfKinds _ _ = ⊥

-- the cells of a row whose values are of these kinds, behind its link
abbrev pub HasRow : (Text : Part → (offset : ℕ) → List ℕ → Type 0) → List (Option Kind) → Cells → (part offset : ℕ) → List Val → Type 0
HasRow Text kinds c k o values = AreOfKinds kinds values × HasCells Text c k (o + 8) values
