-- A walk over the groups of a table, as the source of a pipeline: each is met once.
use Rattle.std.specs.Prelude.{◌≡◌, ℕ, zero, suc, ◌+◌, ◌≤◌, ◌<◌, IsTrue, Bool, List, [], ◌∷◌, ◌++◌, length, Some, slice_get}
use Rattle.std.specs.List.Sorted.{IsPermutation}
use Rattle.qw_types.specs.declared.value.Val.{Val}
use Rattle.qw_grouped.specs.Groups.{keys}
use Rattle.qw_meaning.specs.Flow.{Flow}
use Rattle.qw_module.specs.declared.instruction.ValType.{ValType}
use Rattle.qw_module.specs.declared.instruction.ValType.TheVariants.{I32}
use Rattle.qw_module.specs.declared.instruction.Binary.TheVariants.{Sub}
use Rattle.qw_low.specs.Syntax.{local, binop, Statement, skip, seq, assign, while}
use Rattle.qw_low.specs.State.{Part, LowState}
use Rattle.qw_low.specs.Raising.{Kept}
use Rattle.qw_low.specs.Size.{size}
use Rattle.qw_low.specs.Typing.{IsTyped}
use Rattle.qw_feed.specs.Feeds.{Any, FeedsTo, flow_over, spend}
use Rattle.qw_feed.specs.Frames.{pos, Below, Keeps}
use Rattle.qw_feed.specs.Room.{i32}
use Rattle.qw_feed.specs.Rows.{Row, address}
use Rattle.qw_feed.specs.Stages.{Test}
use Rattle.qw_table.specs.Joins.{Told, tested_sink}
use Rattle.qw_table.specs.Tables.{values_of, probe_block}
use Rattle.qw_table.specs.declared.key.Field.{Field}
use Rattle.qw_group.specs.Groups.{HasGroup, HasGroups, group_size}
use Rattle.qw_group.specs.declared.group.Aggregate.{Aggregate}

-- slots from so many on down to 0
abbrev pub slots_down : ℕ → List ℕ
slots_down zero = []
slots_down (suc n) = n ∷ slots_down n

-- every entry
abbrev pub always : Test
always = record { out = i32 1; block = skip }

-- ---- the block: local c has four times the number of slots left, local c + 1 leads to an entry
abbrev pub walk_turn : (d c : ℕ) → (found : Statement) → Statement
walk_turn d c found = seq (assign c (binop I32 Sub (local c) (i32 4))) (probe_block d c (c + 1) always found)

abbrev pub groups_walk_block : (d c : ℕ) → (found : Statement) → Statement
groups_walk_block d c found = seq (assign c (i32 4096)) (while (local c) (walk_turn d c found))

-- The order in which groups are met is that of the slots; the keys met are those of the rows, each once.
abbrev pub AreMet : (columns : ℕ) → (rows : List (List Val)) → List Row → Type 0
AreMet columns rows entries = IsPermutation (values_of entries) (keys columns rows)

-- Where `found` feeds at the entry of each group, to which local c + 1 leads, the block feeds what comes of all groups, each once in some order:
-- within one more than their units, and one for each slot, times its size.
pub record Walks (directory : ℕ) (key : List Field) (aggregates : List Aggregate) (c : ℕ) (found a : Statement) : Type 0 where
  pub runs : (text : Part → (offset : ℕ) → List ℕ → Bool) (has : List (List Val) → LowState → Bool) (spared : (at width : ℕ) → Bool) (may : List (List Val) → Bool) (beginnings : (rows more : List (List Val)) → IsTrue (may (rows ++ more)) → IsTrue (may rows))
      (inner : List Val → Flow (List Val)) (units : List Val → ℕ) (next most fuel k o u before : ℕ) (rows : List (List Val)) (s : LowState) → c + 1 < next → ((q : List (List Val)) (t w : LowState) → Kept c t w → IsTrue (has q t) → IsTrue (has q w)) →
      (groups : HasGroups (length key) (HasGroup (Told text) key aggregates) (group_size key aggregates) k o directory u before rows s) → ((at width : ℕ) → pos k o ≤ at → at + width ≤ pos groups.part groups.offset → IsTrue (spared at width)) →
      1024 < fuel → length (keys (length key) rows) < fuel → c + 1 < length s.locals →
      ((e : Row) (t : LowState) → slice_get t.locals (c + 1) ≡ Some (address e) → Keeps (Below c) (λ at width. IsTrue (spared at width)) s t → HasGroup (Told text) key aggregates rows t.cells e.part e.offset e.values →
      FeedsTo (tested_sink has spared may beginnings) most fuel (1 + units e.values) (Below next) Any (inner e.values) found t) →
      (entries : List Row) × AreMet (length key) rows entries × FeedsTo (tested_sink has spared may beginnings) most fuel (1025 + spend (λ (e : Row). units e.values) entries) (Below c) Any (flow_over (λ (e : Row). inner e.values) entries) a s
  pub typed : (types : List ValType) → slice_get types directory ≡ Some I32 → slice_get types c ≡ Some I32 → slice_get types (c + 1) ≡ Some I32 → IsTyped types found → IsTyped types a
  pub short : size a ≤ 26 + size found
