-- What an entry of a table of groups says of a set function (ISO/IEC 9075:1992, 6.5): an area of 32 octets, which has a sum's two words, or the least
-- or the greatest value, and from octet 16 on how many values were taken. The block of Low that takes one value more in place.
use Rattle.std.specs.Prelude.{◌≡◌, ℕ, ◌+◌, ◌-◌, ◌*◌, ◌^◌, ◌≤◌, ◌<◌, unsigned_abs, IsTrue, Bool, Option, Some, None, List, [], ◌∷◌, ◌++◌, length, slice_get}
use Rattle.qw_types.specs.Arithmetic.{fits}
use Rattle.qw_types.specs.Kind.{IsOfKind}
use Rattle.qw_types.specs.declared.kind.Kind.{Kind}
use Rattle.qw_types.specs.declared.kind.Kind.TheVariants as kind
use Rattle.qw_types.specs.declared.value.Val.{Val}
use Rattle.qw_types.specs.declared.value.Val.TheVariants as val
use Rattle.qw_linear.specs.Memory.{page}
use Rattle.qw_grouped.specs.SetFunctions.{not_null, total, least, greatest}
use Rattle.qw_grouped.specs.declared.set_function.SetFunctionKind.{SetFunctionKind}
use Rattle.qw_grouped.specs.declared.set_function.SetFunctionKind.TheVariants.{CountRows, Count, Sum, Avg, Min, Max}
use Rattle.qw_module.specs.declared.instruction.ValType.{ValType}
use Rattle.qw_module.specs.declared.instruction.ValType.TheVariants.{I32, I64}
use Rattle.qw_module.specs.declared.instruction.Sign.TheVariants.{Signed}
use Rattle.qw_module.specs.declared.instruction.Binary.TheVariants.{Add}
use Rattle.qw_module.specs.declared.instruction.Relation.{Relation}
use Rattle.qw_module.specs.declared.instruction.Relation.TheVariants.{Ne, Lt, Gt}
use Rattle.qw_module.specs.declared.instruction.Load.TheVariants as loads
use Rattle.qw_module.specs.declared.instruction.Store.TheVariants as stores
use Rattle.qw_low.specs.declared.cell.Cell.{Cell}
use Rattle.qw_low.specs.Syntax.{Expression, local, binop, relop, Statement, skip, seq, load, store, conditional}
use Rattle.qw_low.specs.State.{Part, Column, Own, Value, Number, Address, Cells, LowState}
use Rattle.qw_low.specs.Meaning.{meaning}
use Rattle.qw_low.specs.Typing.{IsTyped}
use Rattle.qw_low.specs.Size.{size}
use Rattle.qw_low.specs.Promise.{Ends}
use Rattle.qw_text.specs.Texts.{Compares, SaysOrder, of_shorter}
use Rattle.qw_feed.specs.Cells.{HasNumber, Supplies}
use Rattle.qw_feed.specs.Frames.{pos, Outside}
use Rattle.qw_table.specs.Entries.{Stands, Declares}
use Rattle.qw_table.specs.Keys.{DeclaresField, DeclaresKind, DeclaresNull, octets_of}
use Rattle.qw_table.specs.Joins.{Told, unless_null}
use Rattle.qw_table.specs.declared.key.Field.{Field}
use Rattle.qw_group.specs.Wides.{IsWide, i64, add_128_block}

-- ---- what an area says
-- so many values were taken
abbrev pub HasCount : (count : ℕ) → Cells → (part at : ℕ) → Type 0
HasCount count c k at = c (Own k) (at + 16) 8 ≡ Some (Number count)

-- the exact sum of numbers of at most 18 digits
pub record HasSum (values : List Val) (c : Cells) (k at : ℕ) : Type 0 where
  pub low : ℕ
  pub high : ℕ
  pub low_is : c (Own k) at 8 ≡ Some (Number low)
  pub high_is : c (Own k) (at + 8) 8 ≡ Some (Number high)
  pub sum : IsWide low high (total values)
  pub bounded : unsigned_abs (total values) ≤ length values * (10 ^ 18 - 1)

-- a value that isn't null: a number or a date as 64 bits, a text by its address and its length, which lies where `Text` says
abbrev pub HasPlain : (Text : Part → (offset : ℕ) → List ℕ → Type 0) → Cells → (part at : ℕ) → Val → Type 0
HasPlain Text c k at val.Null = ⊥
HasPlain Text c k at (val.Num v) = HasNumber c k at v × IsTrue (fits v)
HasPlain Text c k at (val.Date d) = HasNumber c k at d
HasPlain Text c k at (val.Text t) = (p : Part) × (o : ℕ) × (c (Own k) at 4 ≡ Some (Address p o)) × (c (Own k) (at + 4) 4 ≡ Some (Number (length t))) × Text p o t

-- the value of a kind that is chosen of several; of none nothing is known
abbrev pub HasChosen : (Text : Part → (offset : ℕ) → List ℕ → Type 0) → Kind → (choose : Val → List Val → Val) → List Val → Cells → (part at : ℕ) → Type 0
HasChosen Text kd choose [] c k at = Unit {0}
HasChosen Text kd choose (v ∷ values) c k at = IsOfKind kd (choose v values) × HasPlain Text c k at (choose v values)

-- a set function has taken these values, of a kind
abbrev pub HasAggregate : (Text : Part → (offset : ℕ) → List ℕ → Type 0) → SetFunctionKind → Kind → List Val → Cells → (part at : ℕ) → Type 0
HasAggregate Text CountRows kd values c k at = HasCount (length values) c k at
HasAggregate Text Count kd values c k at = HasCount (length (not_null values)) c k at
HasAggregate Text Sum kd values c k at = HasCount (length (not_null values)) c k at × HasSum (not_null values) c k at
HasAggregate Text Avg kd values c k at = HasCount (length (not_null values)) c k at × HasSum (not_null values) c k at
HasAggregate Text Min kd values c k at = HasCount (length (not_null values)) c k at × HasChosen Text kd least (not_null values) c k at
HasAggregate Text Max kd values c k at = HasCount (length (not_null values)) c k at × HasChosen Text kd greatest (not_null values) c k at

-- ---- the argument at a row
-- Locals supply it, of its kind: SUM and AVG are of numbers alone, and COUNT(*) has none.
abbrev pub Gives : (Text : Part → (offset : ℕ) → List ℕ → Type 0) → List Value → SetFunctionKind → Field → Val → Type 0
Gives Text locals CountRows f v = Unit {0}
Gives Text locals Count f v = Supplies Text locals f.cell v × IsOfKind f.kind v
Gives Text locals Sum f v = Supplies Text locals f.cell v × IsOfKind (kind.Number 0) v
Gives Text locals Avg f v = Supplies Text locals f.cell v × IsOfKind (kind.Number 0) v
Gives Text locals Min f v = Supplies Text locals f.cell v × IsOfKind f.kind v
Gives Text locals Max f v = Supplies Text locals f.cell v × IsOfKind f.kind v

abbrev pub DeclaresArgument : List ValType → SetFunctionKind → Field → Type 0
DeclaresArgument types CountRows f = Unit {0}
DeclaresArgument types Count f = DeclaresNull types f.cell.null
DeclaresArgument types Sum f = DeclaresKind types (kind.Number 0) f.cell × DeclaresNull types f.cell.null
DeclaresArgument types Avg f = DeclaresKind types (kind.Number 0) f.cell × DeclaresNull types f.cell.null
DeclaresArgument types Min f = DeclaresField types f
DeclaresArgument types Max f = DeclaresField types f

-- ---- the blocks: local e leads to an entry, whose area is so many octets from its start; the locals from g on are the block's own
abbrev pub count_more : (e at g : ℕ) → Statement
count_more e at g = seq (load g (loads.Full I64) (at + 16) (local e)) (store (stores.Full I64) (at + 16) (local e) (binop I64 Add (local g) (i64 1)))

abbrev pub sum_more : (e at x g : ℕ) → Statement
sum_more e at x g =
    seq (load g (loads.Full I64) at (local e))
    (seq (load (g + 1) (loads.Full I64) (at + 8) (local e))
    (seq (add_128_block g x)
    (seq (store (stores.Full I64) at (local e) (local g))
    (store (stores.Full I64) (at + 8) (local e) (local (g + 1))))))

-- a value that isn't null is stored
abbrev pub plain_put : Kind → Cell → (e at : ℕ) → Statement
plain_put (kind.Number s) c e at = store (stores.Full I64) at (local e) (local c.value)
plain_put kind.Date c e at = store (stores.Full I64) at (local e) (local c.value)
plain_put kind.Text c e at = seq (store (stores.Full I32) at (local e) (local c.value)) (store (stores.Full I32) (at + 4) (local e) (local c.length))

-- the value that was chosen comes into locals; of texts a block finds the order of it and the one in locals
abbrev pub chosen_read : Kind → (order : Statement) → (e at g : ℕ) → Statement
chosen_read (kind.Number s) order e at g = load g (loads.Full I64) at (local e)
chosen_read kind.Date order e at g = load g (loads.Full I64) at (local e)
chosen_read kind.Text order e at g = seq (load (g + 3) (loads.Full I32) at (local e)) (seq (load (g + 4) (loads.Full I32) (at + 4) (local e)) order)

-- whether that value is in a relation to the one in locals
abbrev pub is_beaten : Kind → Relation → Cell → (g : ℕ) → Expression
is_beaten (kind.Number s) r c g = relop I64 r (local g) (local c.value)
is_beaten kind.Date r c g = relop I64 r (local g) (local c.value)
is_beaten kind.Text r c g = relop I64 r (local (g + 7)) (i64 0)

-- the first value is stored, and each one to which the one that was chosen is in a relation
abbrev pub choose_more : Kind → Relation → (order : Statement) → Cell → (e at g : ℕ) → Statement
choose_more kd r order c e at g =
    seq (count_more e at g)
    (conditional (relop I64 Ne (local g) (i64 0)) (seq (chosen_read kd order e at g) (conditional (is_beaten kd r c g) (plain_put kd c e at) skip)) (plain_put kd c e at))

-- where the argument isn't null
abbrev pub value_more : SetFunctionKind → (order : Statement) → Field → (e at g : ℕ) → Statement
value_more CountRows order f e at g = count_more e at g
value_more Count order f e at g = count_more e at g
value_more Sum order f e at g = seq (count_more e at g) (sum_more e at f.cell.value g)
value_more Avg order f e at g = seq (count_more e at g) (sum_more e at f.cell.value g)
value_more Min order f e at g = choose_more f.kind (Gt Signed) order f.cell e at g
value_more Max order f e at g = choose_more f.kind (Lt Signed) order f.cell e at g

-- COUNT(*) takes each row
abbrev pub null_of : SetFunctionKind → Field → Option ℕ
null_of CountRows f = None
null_of Count f = f.cell.null
null_of Sum f = f.cell.null
null_of Avg f = f.cell.null
null_of Min f = f.cell.null
null_of Max f = f.cell.null

abbrev pub area_block : SetFunctionKind → (order : Statement) → Field → (e at g : ℕ) → Statement
area_block function order f e at g = unless_null (null_of function f) (value_more function order f e at g)

-- ---- what the block promises
-- MIN and MAX choose a value
abbrev pub Chooses : SetFunctionKind → Type 0
Chooses CountRows = ⊥
Chooses Count = ⊥
Chooses Sum = ⊥
Chooses Avg = ⊥
Chooses Min = Unit {0}
Chooses Max = Unit {0}

abbrev pub OrdersTexts : SetFunctionKind → Field → (g : ℕ) → (order : Statement) → Type 0
OrdersTexts function f g order = Chooses function → f.kind ≡ kind.Text → Compares of_shorter (SaysOrder (g + 7)) (record { value = g + 3; length = g + 4; null = None }) f.cell (g + 5) order

-- the block takes one value more
pub record Aggregates (function : SetFunctionKind) (f : Field) (e at g : ℕ) (a : Statement) : Type 0 where
  pub order : Statement
  pub orders : OrdersTexts function f g order
  pub is : a ≡ area_block function order f e at g

-- stores in one place alone, between two offsets of an own part, and locals from one on
pub record InPlace (p from to g : ℕ) (s t : LowState) : Type 0 where
  pub others : t ≡ record s { locals = t.locals; cells = t.cells }
  pub many : length t.locals ≡ length s.locals
  pub below : (i : ℕ) → i < g → slice_get t.locals i ≡ slice_get s.locals i
  pub mapped : (k a b : ℕ) → t.cells (Column k) a b ≡ s.cells (Column k) a b
  pub cells : (k a b : ℕ) → Outside (pos p from) (pos p to) (pos k a) b → t.cells (Own k) a b ≡ s.cells (Own k) a b

-- the types of the locals that the block has of its own
abbrev pub area_types : List ValType
area_types = I64 ∷ I64 ∷ I64 ∷ I32 ∷ I32 ∷ I32 ∷ I32 ∷ I64 ∷ I64 ∷ []

-- A block that begins where local e leads to an entry, an area of which has taken fewer than 10^18 values, and locals supply one more: it has taken that
-- too, within its size times one more than n. Where it chooses a value, n is at least the octets of the one that comes; otherwise it may be 0.
-- Nothing but the area and the block's own locals is changed.
pub record Takes (function : SetFunctionKind) (f : Field) (e at g : ℕ) (a : Statement) : Type 0 where
  pub runs : (text : Part → (offset : ℕ) → List ℕ → Bool) (most fuel n k o : ℕ) (s : LowState) (values : List Val) (v : Val) → 1 + n ≤ fuel → length values < 10 ^ 18 →
      (Chooses function → octets_of v ≤ n) → ((t : LowState) → InPlace k (o + at) (o + at + 32) g s t → (p : Part) (place : ℕ) (octets : List ℕ) → Told text p place octets → Stands t p place octets) → Gives (Told text) s.locals function f v →
      slice_get s.locals e ≡ Some (Address (Own k) o) → slice_get s.own k ≡ Some page → o + at + 32 ≤ page → HasAggregate (Told text) function f.kind values s.cells k (o + at) → g + 9 ≤ length s.locals →
      Ends (size a * (1 + n)) (λ t. InPlace k (o + at) (o + at + 32) g s t × HasAggregate (Told text) function f.kind (values ++ v ∷ []) t.cells k (o + at)) (λ t. ⊥) (λ code. ⊥) (meaning most fuel a s)
  pub typed : (types : List ValType) → slice_get types e ≡ Some I32 → DeclaresArgument types function f → Declares types g area_types → IsTyped types a
  pub short : size a ≤ 100
