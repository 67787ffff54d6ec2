-- All rows as one group, where a query has set functions and no GROUP BY (ISO/IEC 9075:1992, 7.8 and 7.9): the areas alone, at one place, to which a
-- local leads; also where there is no row.
use Rattle.std.specs.Prelude.{◌≡◌, ℕ, ◌+◌, ◌*◌, ◌^◌, ◌≤◌, ◌<◌, IsTrue, Bool, List, [], ◌++◌, length, Some, slice_get}
use Rattle.qw_linear.specs.Memory.{page}
use Rattle.qw_types.specs.declared.value.Val.{Val}
use Rattle.qw_module.specs.declared.instruction.ValType.{ValType}
use Rattle.qw_module.specs.declared.instruction.ValType.TheVariants.{I32}
use Rattle.qw_module.specs.declared.instruction.Binary.TheVariants.{Sub}
use Rattle.qw_low.specs.Syntax.{local, binop, advance, Statement, seq, assign}
use Rattle.qw_low.specs.State.{Part, Own, Address, LowState}
use Rattle.qw_low.specs.Meaning.{meaning}
use Rattle.qw_low.specs.Promise.{Ends}
use Rattle.qw_low.specs.Size.{size}
use Rattle.qw_low.specs.Typing.{IsTyped}
use Rattle.qw_feed.specs.Feeds.{one_row, Any, Sink, FeedsTo}
use Rattle.qw_feed.specs.Frames.{pos, Before, Below, Keeps}
use Rattle.qw_feed.specs.Room.{i32, room_block, HasRoom, Paid}
use Rattle.qw_table.specs.Entries.{Declares, Stands}
use Rattle.qw_table.specs.Joins.{Told}
use Rattle.qw_group.specs.Areas.{area_types}
use Rattle.qw_group.specs.Groups.{HasAreas, AllGive, AreChosenWithin, DeclareArguments, functions_in}
use Rattle.qw_group.specs.declared.group.Aggregate.{Aggregate}

-- The areas, of so many octets, stand at an offset of an own part, before free space, and have taken these rows; local e leads there. What was placed
-- pays for the pages: `budget` octets, which are those of the areas and what was placed before them.
pub record HasSingle (Text : Part → (offset : ℕ) → List ℕ → Type 0) (aggregates : List Aggregate) (k o e u budget : ℕ) (rows : List (List Val)) (s : LowState) : Type 0 where
  pub part : ℕ
  pub offset : ℕ
  pub room : HasRoom part offset s
  pub at : slice_get s.locals e ≡ Some (Address (Own k) o)
  pub sized : slice_get s.own k ≡ Some page
  pub inside : o + 32 * length aggregates ≤ page
  pub behind : pos k (o + 32 * length aggregates) ≤ pos part offset
  pub areas : HasAreas Text 0 aggregates rows s.cells k o
  pub paid : Paid u budget offset s.held

-- it spares all that stands before the areas
abbrev pub single_sink : (Text : Part → (offset : ℕ) → List ℕ → Type 0) → List Aggregate → (k o e u budget : ℕ) → (May : List (List Val) → Type 0) → ((rows more : List (List Val)) → May (rows ++ more) → May rows) → Sink
single_sink Text aggregates k o e u budget May beginnings = record { Spared = Before (pos k o); Has = HasSingle Text aggregates k o e u budget; May = May; beginnings = beginnings }

-- areas that have taken nothing are placed, so many octets, and local e leads to them
abbrev pub single_block : (size e : ℕ) → Statement
single_block size e = seq (room_block size) (seq (assign e (local 1)) (seq (assign 1 (advance (local 1) (i32 size))) (assign 2 (binop I32 Sub (local 2) (i32 size)))))

-- ---- what is promised of the blocks, where tests say which texts lie in memory, and which rows there may be
-- Areas that have taken nothing are placed behind what there was, or a request for a page was refused.
pub record Begins (e : ℕ) (aggregates : List Aggregate) (a : Statement) : Type 0 where
  pub runs : (text : Part → (offset : ℕ) → List ℕ → Bool) (u budget most fuel part offset : ℕ) (s : LowState) → 32 * length aggregates + u ≤ page → HasRoom part offset s → Paid u budget offset s.held → budget + 2 * u < (most + 1) * u → e < length s.locals →
      Ends (size a) (λ t. (k : ℕ) × (o : ℕ) × (pos part offset ≤ pos k o) × Keeps (Below e) (Before (pos part offset)) s t × HasSingle (Told text) aggregates k o e u (budget + 32 * length aggregates) [] t) (λ t. ⊥) (λ code. code ≡ 3) (meaning most fuel a s)
  pub typed : (types : List ValType) → slice_get types 1 ≡ Some I32 → slice_get types 2 ≡ Some I32 → slice_get types e ≡ Some I32 → IsTyped types a
  pub short : size a ≤ 30

-- The areas take the arguments of one row more. Within `more` times the block's size, which is at least one more than what MIN and MAX compare.
pub record Gathers (e : ℕ) (aggregates : List Aggregate) (free : ℕ) (a : Statement) : Type 0 where
  pub runs : (text : Part → (offset : ℕ) → List ℕ → Bool) (may : List (List Val) → Bool) (beginnings : (rows others : List (List Val)) → IsTrue (may (rows ++ others)) → IsTrue (may rows)) (k o u budget most fuel chosen more : ℕ) (row : List Val) (s : LowState) →
      ((t : LowState) → Keeps (Below free) (Before (pos k o)) s t → (p : Part) (at : ℕ) (octets : List ℕ) → Told text p at octets → Stands t p at octets) → AllGive (Told text) s.locals 0 aggregates row →
      ((xs : List (List Val)) → IsTrue (may xs) → 1 ≤ length aggregates → length xs ≤ 10 ^ 18) → AreChosenWithin 0 (functions_in aggregates) row chosen → 1 + chosen ≤ more → more ≤ fuel → free + 9 ≤ length s.locals →
      FeedsTo (single_sink (Told text) aggregates k o e u budget (λ xs. IsTrue (may xs)) beginnings) most fuel more (Below free) Any (one_row row) a s
  pub typed : (types : List ValType) → slice_get types e ≡ Some I32 → DeclareArguments types aggregates → Declares types free area_types → IsTyped types a
  pub short : size a ≤ 100 * length aggregates
