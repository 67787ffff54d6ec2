use Rattle.std.proofs.Common.{◌≡◌, ◌*◌, ◌∙◌, ◌++◌, ◌∷◌, [], ℕ, List, add-one, ap, arith, length, refl, Some, subst, suc, sym, take}
use Rattle.std.specs.Prelude.{slice_get}
use Rattle.std.proofs.lemmas.Iterator.Adapters.{YieldsList-from_vec}
use Rattle.std.proofs.lemmas.Iterator.Consumers.{YieldsList-end, YieldsList-turn}
use Rattle.std.proofs.lemmas.List.{length_push}
use Rattle.std.proofs.lemmas.Option.{slice_get-get_or, slice_get_within}
use Rattle.qw_types.specs.Contents.{Contents}
use Rattle.qw_linear.specs.Memory.{page}
use Rattle.qw_map.specs.Columns.{HoldsTable, columns_start, map_of, tables_end}
use Rattle.qw_map.specs.declared.layout.Placed.{Placed}
use Rattle.qw_map.proofs.ColumnLemmas.{tables-end-above}
use Rattle.qw_columns.specs.Inner.Writing.{AreColumnsOf}
use Rattle.qw_columns.proofs.GrowthLemmas.{grows_then}
use Rattle.qw_columns.proofs.NextTable.{NextTable, length-columns_of, next_table}
use Rattle.qw_columns.proofs.PlaceLemmas.{length-placed_tables}
use Rattle.qw_columns.proofs.TableFacts.{tables_all, tables_end-within, tables_more, tables_none}
use Rattle.qw_columns.proofs.columns.write_tables.Goals as goal
use Rattle.qw_columns.proofs.columns.write_tables.Goals.{In-None}

pub grow_to-requires : goal.grow_to-requires
grow_to-requires c = omega (arith, tables-end-above columns_start c.requires.room.0, c.requires.room.3)

pub loop-columns-init : goal.loop-columns-init
loop-columns-init c = (
  tt,
  tt,
  refl,
  (λ loaded are is. tables_none c.args.map.now.placed c.grow_to.new.memory.octets loaded),
  c.grow_to.ensures.grows columns_start,
  (λ loaded are is. c.grow_to.ensures.len 0 (omega arith) c.requires.empty),
)

-- the columns that come next
there : (c : goal.In-Some) → slice_get c.args.tables.items (length c.loop-columns.yielded) ≡ Some c.in-Some.columns
there c =
    let begins = c.into_iter-columns-iterator.ensures.into_iter_gives in
    let turn = YieldsList-turn (YieldsList-from_vec c.args.tables.items begins.0 (begins.1 ∙ c.args.tables.ok.0)) c.loop-columns.yielded c.loop-columns.columns-iterator
    c.loop-columns.yielded_by c.next.result c.next.new.self c.in-Some.columns c.in-Some.is c.next.ensures.steps in
    slice_get-get_or c.args.tables.items (length c.loop-columns.yielded) c.in-Some.columns turn.0 ∙ ap Some (sym turn.1)

pub table-requires : goal.table-requires
table-requires c =
    let many = length-columns_of c.args.tables.items c.requires.room.0 c.requires.room.1 in
    let long = ap length c.requires.room.2 ∙ length-placed_tables columns_start c.requires.room.0 in
    let within = slice_get_within c.args.tables.items (length c.loop-columns.yielded) c.in-Some.columns (there c) in
    omega (arith, within, many, long, c.loop-columns.invariant.2)

-- and where they stand, of any tables of these columns
next : (c : goal.After-write_table-arg-1) (loaded : List Contents) → AreColumnsOf c.args.tables.items loaded → c.args.map.now.placed ≡ map_of loaded
    → NextTable loaded (length c.loop-columns.yielded) c.in-Some.columns.items c.table.result.now
next c loaded are is =
    next_table c.args.tables.items loaded c.args.map.now.placed c.loop-columns.index (length c.loop-columns.yielded) c.in-Some.columns c.table.result.now are is
    c.loop-columns.invariant.2 (there c.before.before) c.table.ensures

pub write_table-requires-clause-room : goal.write_table-requires-clause-room
write_table-requires-clause-room c =
    let loaded = c.requires.room.0 in
    let n = length c.loop-columns.yielded in
    let one = next c loaded c.requires.room.1 c.requires.room.2 in
    let within = tables_end-within columns_start loaded (suc n) in
    let same = ap (λ (n : ℕ). n * page) c.loop-columns.invariant.4.reserved in (
      tables_end columns_start (take n loaded),
      one.table,
      one.are,
      c.loop-columns.invariant.5 loaded c.requires.room.1 c.requires.room.2,
      omega (arith, one.end, within, same, c.requires.room.3),
    )

pub loop-columns-preserved : goal.loop-columns-preserved
loop-columns-preserved c =
    let n = length c.loop-columns.yielded in
    let before = c.loop-columns.memory in
    let after = c.write_table.new.memory in
    let these = c.before in
    let more : length (c.loop-columns.yielded ++ c.in-Some.columns ∷ []) ≡ suc n = length_push c.loop-columns.yielded c.in-Some.columns ∙ add-one n in
    rw more (
      tt,
      tt,
      omega (arith, c.loop-columns.invariant.2),
      (λ loaded are is.
          let one = next these loaded are is in
          let at = tables_end columns_start (take n loaded) in
          let grew = c.write_table.ensures.grows at one.table one.are in
          tables_more before.octets after.octets c.args.map.now.placed loaded n grew.below grew.len is (c.loop-columns.invariant.3 loaded are is)
          (λ table placed found here.
          let this : one.table ≡ table = cc (one.found, found) in
          let that : c.table.result.now ≡ placed = cc (rw c.loop-columns.invariant.2 at c.table.ensures, here) in
          subst (λ (t : Contents). HoldsTable after.octets placed t) this
          (subst (λ (p : List Placed). HoldsTable after.octets p one.table) that (c.write_table.ensures.holds at one.table one.are)))),
      (let loaded = c.requires.room.0 in
          let one = next these loaded c.requires.room.1 c.requires.room.2 in
          let at = tables_end columns_start (take n loaded) in
          grows_then c.args.memory.now before after columns_start at (tables-end-above columns_start (take n loaded)) c.loop-columns.invariant.4 (c.write_table.ensures.grows at one.table one.are)),
      (λ loaded are is.
          let one = next these loaded are is in
          rw one.end (c.write_table.ensures.len (tables_end columns_start (take n loaded)) one.table one.are (c.loop-columns.invariant.5 loaded are is))),
    )

-- all tables have come
count : (c : In-None) → length c.loop-columns.yielded ≡ length c.args.tables.items
count c =
    let begins = c.into_iter-columns-iterator.ensures.into_iter_gives in
    (YieldsList-end (YieldsList-from_vec c.args.tables.items begins.0 (begins.1 ∙ c.args.tables.ok.0)) c.loop-columns.yielded c.loop-columns.columns-iterator
    c.loop-columns.yielded_by c.next.result c.next.new.self c.in-None.is c.next.ensures.steps).1

pub returns-clause-holds : goal.returns-clause-holds
returns-clause-holds c loaded are is =
    let many = length-columns_of c.args.tables.items loaded are in
    tables_all c.args.map.now.placed c.loop-columns.memory.octets loaded (length c.loop-columns.yielded) (omega (arith, count c.before, many)) is
    (c.loop-columns.invariant.3 loaded are is)
