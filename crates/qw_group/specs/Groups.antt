-- The groups of rows (ISO/IEC 9075:1992, 7.7) in a hash table: an entry has a group's key, and for each set function an area that has taken the
-- arguments at the group's rows. The blocks of Low that put a row into its group, and that meet each group; and the sink that the table is.
use Rattle.std.specs.Prelude.{◌≡◌, ℕ, IsTrue, ◌+◌, ◌*◌, ◌^◌, ◌≤◌, ◌<◌, ◌⊎◌, Bool, List, [], ◌∷◌, ◌++◌, length, map, Some, slice_get}
use Rattle.std.specs.List.{AllByRecursion}
use Rattle.std.specs.List.Sorted.{IsPermutation}
use Rattle.qw_linear.specs.Memory.{page}
use Rattle.qw_types.specs.declared.value.Val.{Val}
use Rattle.qw_layout.specs.Hash.{slot}
use Rattle.qw_layout.specs.Row.{cell_offset, entry_size}
use Rattle.qw_scalar.specs.Evaluation.{cell_of}
use Rattle.qw_grouped.specs.Groups.{key_of, keys, members, values_at}
use Rattle.qw_grouped.specs.declared.set_function.SetFunctionKind.{SetFunctionKind}
use Rattle.qw_module.specs.declared.instruction.ValType.TheVariants.{I32, I64}
use Rattle.qw_module.specs.declared.instruction.ValType.{ValType}
use Rattle.qw_module.specs.declared.instruction.Load.TheVariants as loads
use Rattle.qw_low.specs.Syntax.{local, retreat, Statement, skip, seq, assign, load, conditional, while}
use Rattle.qw_low.specs.Size.{size}
use Rattle.qw_low.specs.Typing.{IsTyped}
use Rattle.qw_low.specs.State.{Part, Own, Value, Address, Cells, LowState}
use Rattle.qw_feed.specs.Cells.{HasCells, AllSupply, Uses, cells_block}
use Rattle.qw_feed.specs.Feeds.{one_row, Any, Sink, FeedsTo}
use Rattle.qw_feed.specs.Frames.{pos, Before, Below, Keeps}
use Rattle.qw_feed.specs.Room.{i32, HasRoom, Paid}
use Rattle.qw_feed.specs.Rows.{Row, start_of}
use Rattle.qw_feed.specs.Stages.{Test, Among}
use Rattle.qw_table.specs.Entries.{Declares, Stands}
use Rattle.qw_table.specs.Joins.{Told, sources_of}
use Rattle.qw_table.specs.Keys.{AreAlike, AreDeclared, IsBelow, FindsSlot, TestsKey, octets_of, text_octets}
use Rattle.qw_table.specs.Tables.{values_of, in_slot, Linked, IsDirectory, slot_at, insert_block}
use Rattle.qw_table.specs.declared.key.Field.{Field}
use Rattle.qw_group.specs.Areas.{HasAggregate, Gives, DeclaresArgument, Aggregates, Chooses}
use Rattle.qw_group.specs.declared.group.Aggregate.{Aggregate}

-- ---- an entry
-- the areas of set functions, which have taken the arguments from a place of these rows on
abbrev pub HasAreas : (Text : Part → (offset : ℕ) → List ℕ → Type 0) → (place : ℕ) → List Aggregate → (rows : List (List Val)) → Cells → (part at : ℕ) → Type 0
HasAreas Text place [] rows c k at = Unit {0}
HasAreas Text place (a ∷ aggregates) rows c k at = HasAggregate Text a.function a.argument.kind (values_at place rows) c k at × HasAreas Text (place + 1) aggregates rows c k (at + 32)

-- the key's cells stand behind 24 octets, the areas behind them
abbrev pub HasGroup : (Text : Part → (offset : ℕ) → List ℕ → Type 0) → List Field → List Aggregate → (rows : List (List Val)) → Cells → (part offset : ℕ) → (key : List Val) → Type 0
HasGroup Text key aggregates rows c k o values =
    AreAlike key values × HasCells Text c k (o + 24) values × HasAreas Text (length key) aggregates (members (length key) values rows) c k (o + cell_offset (length key))

abbrev pub group_size : List Field → List Aggregate → ℕ
group_size key aggregates = entry_size (length key) 0 (length aggregates)

-- ---- the table
abbrev pub In : {A : Type 0} → A → List A → Type 0
In e [] = ⊥
In e (f ∷ es) = (e ≡ f) ⊎ In e es

-- one ends where the other begins, or before it
abbrev pub Apart : (size : ℕ) → Row → Row → Type 0
Apart size e f = (start_of e + size ≤ start_of f) ⊎ (start_of f + size ≤ start_of e)

-- The groups of the rows so far, by their first so many values: each entry, which `Has` its group, is in the chain of its key's slot; no two have
-- the same key; each row's key has an entry, and each entry a row. What was placed pays for the pages: the entries, and `before` octets before them.
pub record HasGroups (columns : ℕ) (Has : List (List Val) → Cells → (part offset : ℕ) → (key : List Val) → Type 0) (size : ℕ) (k o d u before : ℕ) (rows : List (List Val)) (s : LowState) : Type 0 where
  pub part : ℕ
  pub offset : ℕ
  pub room : HasRoom part offset s
  pub at : slice_get s.locals d ≡ Some (Address (Own k) o)
  pub chains : ℕ → List Row
  pub directory : IsDirectory k o (pos part offset) chains s.cells s.own
  pub linked : (j : ℕ) → j < 1024 → Linked (Has rows) size s.cells (pos k (o + 4096)) (pos part offset) (chains j)
  pub home : (j : ℕ) → j < 1024 → (e : Row) → In e (chains j) → slot e.values ≡ j
  pub apart : (i j : ℕ) → i < 1024 → j < 1024 → (e f : Row) → In e (chains i) → In f (chains j) → (e ≡ f) ⊎ (Apart size e f × (e.values ≡ f.values → ⊥))
  pub all : (r : List Val) → In r rows → (e : Row) × In e (chains (slot (key_of columns r))) × (e.values ≡ key_of columns r)
  pub some : (j : ℕ) → j < 1024 → (e : Row) → In e (chains j) → 1 ≤ length (members columns e.values rows)
  pub same : (j : ℕ) → j < 1024 → IsPermutation (values_of (chains j)) (in_slot slot j (keys columns rows))
  pub paid : Paid u (before + length (keys columns rows) * size) offset s.held

-- it spares all that stands before its directory
abbrev pub groups_sink : (columns : ℕ) → (Has : List (List Val) → Cells → (part offset : ℕ) → (key : List Val) → Type 0) → (size k o d u before : ℕ) → (May : List (List Val) → Type 0) → ((rows more : List (List Val)) → May (rows ++ more) → May rows) → Sink
groups_sink columns Has size k o d u before May beginnings = record { Spared = Before (pos k o); Has = HasGroups columns Has size k o d u before; May = May; beginnings = beginnings }

-- ---- the blocks
-- Local g leads to the entry of the slot where the test holds, or is 0. Local g + 1 goes along the slot's chain.
abbrev pub find_turn : (g : ℕ) → Test → Statement
find_turn g test = seq test.block (conditional test.out (seq (assign g (local (g + 1))) (assign (g + 1) (i32 0))) (load (g + 1) (loads.Full I32) 0 (local (g + 1))))

abbrev pub find_block : (d h g : ℕ) → Test → Statement
find_block d h g test = seq (assign g (i32 0)) (seq (load (g + 1) (loads.Full I32) 0 (slot_at d h)) (while (local (g + 1)) (find_turn g test)))

-- where there is none, one is placed whose areas have taken nothing, and local g leads to it
abbrev pub place_block : (size d h g : ℕ) → (fill : Statement) → Statement
place_block size d h g fill = seq (insert_block size d h (g + 1) fill) (assign g (retreat (local 1) (i32 size)))

abbrev pub group_block : (size d h g : ℕ) → Test → (fill update : Statement) → Statement
group_block size d h g test fill update = seq (find_block d h g test) (seq (conditional (local g) skip (place_block size d h g fill)) update)

-- each area takes one value more
abbrev pub UpdatesAreas : (e at g : ℕ) → List Aggregate → Statement → Type 0
UpdatesAreas e at g [] a = a ≡ skip
UpdatesAreas e at g (x ∷ aggregates) a = (b : Statement) × (c : Statement) × (a ≡ seq b c) × Aggregates x.function x.argument e at g b × UpdatesAreas e (at + 32) g aggregates c

-- The slot of the key is found, and in it the entry that has the key; where there is none, one is placed; and its areas take the arguments. The 24
-- locals from `free` on are the block's own: those of the slot, two of the search, those of the test, and those of the areas.
pub record Groups (directory : ℕ) (key : List Field) (aggregates : List Aggregate) (free : ℕ) (a : Statement) : Type 0 where
  pub find : Statement
  pub finds : FindsSlot key free find
  pub test : Statement
  pub tests : TestsKey key (free + 5) (free + 6) test
  pub update : Statement
  pub updates : UpdatesAreas (free + 4) (cell_offset (length key)) (free + 15) aggregates update
  pub is : a ≡ seq find (group_block (group_size key aggregates) directory (free + 3) (free + 4) (record { out = local (free + 6); block = test }) (cells_block 24 (sources_of key)) update)

-- the arguments from a place of a row on are in locals
abbrev pub AllGive : (Text : Part → (offset : ℕ) → List ℕ → Type 0) → List Value → (place : ℕ) → List Aggregate → (row : List Val) → Type 0
AllGive Text locals place [] row = Unit {0}
AllGive Text locals place (a ∷ aggregates) row = Gives Text locals a.function a.argument (cell_of (slice_get row place)) × AllGive Text locals (place + 1) aggregates row

-- the types of the block's own locals
abbrev pub group_types : List ValType
group_types = I64 ∷ I32 ∷ I64 ∷ I32 ∷ I32 ∷ I32 ∷ I32 ∷ I32 ∷ I64 ∷ I32 ∷ I32 ∷ I32 ∷ I32 ∷ I64 ∷ I64 ∷ I64 ∷ I64 ∷ I64 ∷ I32 ∷ I32 ∷ I32 ∷ I32 ∷ I64 ∷ I64 ∷ []

abbrev pub DeclareArguments : List ValType → List Aggregate → Type 0
DeclareArguments types aggregates = AllByRecursion (λ (a : Aggregate). DeclaresArgument types a.function a.argument) aggregates

-- the locals of arguments are below one; and among those from 5 on, below one
abbrev pub AreArgumentsBelow : ℕ → List Aggregate → Type 0
AreArgumentsBelow n aggregates = AllByRecursion (λ (a : Aggregate). IsBelow n a.argument) aggregates

abbrev pub ArgumentsUse : ℕ → List Aggregate → Type 0
ArgumentsUse n aggregates = AllByRecursion (λ (a : Aggregate). Uses (Among n) a.argument.cell) aggregates

abbrev pub functions_in : List Aggregate → List SetFunctionKind
functions_in aggregates = map (λ (a : Aggregate). a.function) aggregates

-- the octets of the text at a place of a row, 0 of a value that is none
abbrev pub octets_at : (place : ℕ) → List Val → ℕ
octets_at place row = octets_of (cell_of (slice_get row place))

-- At a row MIN and MAX compare its text with the one that they have chosen, as far as the shorter one goes: the octets of the row's own are at most so
-- many. The arguments of the set functions begin at a place.
abbrev pub AreChosenWithin : (place : ℕ) → List SetFunctionKind → (row : List Val) → ℕ → Type 0
AreChosenWithin place [] row n = Unit {0}
AreChosenWithin place (f ∷ functions) row n = (Chooses f → octets_at place row ≤ n) × AreChosenWithin (place + 1) functions row n

-- ---- what is promised of the block, where tests say which texts lie in memory, and which rows there may be
-- A row, whose key and arguments are in locals, is put into its group: the table then has the groups of one row more, or a request for a page was
-- refused. Within `more` times the block's size: `more` is one more than the octets of the row's key, for each entry that there may be in the row's slot
-- as many again, and what MIN and MAX compare. Where there are set functions there are at most 10^18 rows.
pub record Collects (directory : ℕ) (key : List Field) (aggregates : List Aggregate) (free : ℕ) (a : Statement) : Type 0 where
  pub runs : (text : Part → (offset : ℕ) → List ℕ → Bool) (may : List (List Val) → Bool) (beginnings : (rows others : List (List Val)) → IsTrue (may (rows ++ others)) → IsTrue (may rows)) (k o u before most fuel units chosen more : ℕ) (row : List Val) (s : LowState) →
      group_size key aggregates + u ≤ page → ((t : LowState) → Keeps (Below free) (Before (pos k o)) s t → (p : Part) (at : ℕ) (octets : List ℕ) → Told text p at octets → Stands t p at octets) →
      AllSupply (Told text) s.locals (sources_of key) (key_of (length key) row) → AllGive (Told text) s.locals (length key) aggregates row → ((xs : List (List Val)) → IsTrue (may xs) → 1 ≤ length aggregates → length xs ≤ 10 ^ 18) →
      AreChosenWithin (length key) (functions_in aggregates) row chosen →
      ((xs : List (List Val)) → IsTrue (may xs) → before + length (keys (length key) xs) * group_size key aggregates + 2 * u < (most + 1) * u) → ((xs : List (List Val)) → IsTrue (may xs) → length (in_slot slot (slot (key_of (length key) row)) (keys (length key) xs)) ≤ units) →
      1 + text_octets (key_of (length key) row) + units * (1 + text_octets (key_of (length key) row)) + chosen ≤ more → more ≤ fuel → units < fuel → free + 24 ≤ length s.locals →
      FeedsTo (groups_sink (length key) (HasGroup (Told text) key aggregates) (group_size key aggregates) k o directory u before (λ xs. IsTrue (may xs)) beginnings) most fuel more (Below free) Any (one_row row) a s
  pub typed : (types : List ValType) → AreDeclared types key → DeclareArguments types aggregates → slice_get types 1 ≡ Some I32 → slice_get types 2 ≡ Some I32 → slice_get types directory ≡ Some I32 → Declares types free group_types → IsTyped types a
  pub short : size a ≤ 80 + 188 * length key + 100 * length aggregates
