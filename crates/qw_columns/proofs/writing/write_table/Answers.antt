use Rattle.std.proofs.Common.{◌≡◌, ◌*◌, ◌∙◌, ◌++◌, ◌∷◌, [], ℕ, add-one, ap, arith, length, Some, suc, sym, take, take_all}
use Rattle.std.specs.Prelude.{slice_get, slice_index_or}
use Rattle.std.proofs.lemmas.Iterator.Adapters.{YieldsList-from_vec}
use Rattle.std.proofs.lemmas.Iterator.Consumers.{YieldsList-end, YieldsList-turn}
use Rattle.std.proofs.lemmas.List.{length_push}
use Rattle.std.proofs.lemmas.Option.{slice_get-get_or, slice_get_within}
use Rattle.qw_types.specs.Contents.{Contents}
use Rattle.qw_linear.specs.Memory.{page}
use Rattle.qw_map.specs.Columns.{columns_end}
use Rattle.qw_map.specs.declared.layout.Placed.{Placed}
use Rattle.qw_map.proofs.ColumnLemmas.{columns-end-above}
use Rattle.qw_columns.specs.Inner.Writing.{AreColumnsAt}
use Rattle.qw_columns.proofs.GrowthLemmas.{grows_then}
use Rattle.qw_columns.proofs.NextColumn.{NextColumn, as_many, column_more, next_column}
use Rattle.qw_columns.proofs.TableFacts.{columns_all, columns_end-within, nowhere}
use Rattle.qw_columns.proofs.writing.write_table.Goals as goal
use Rattle.qw_columns.proofs.writing.write_table.Goals.{In-None}

-- the column that comes next
there : (c : goal.In-Some) → slice_get c.args.columns.items (length c.loop-column.yielded) ≡ Some c.in-Some.column
there c =
    let begins = c.into_iter-column-iterator.ensures.into_iter_gives in
    let turn = YieldsList-turn (YieldsList-from_vec c.args.columns.items begins.0 (begins.1 ∙ c.args.columns.ok.0)) c.loop-column.yielded c.loop-column.column-iterator
    c.loop-column.yielded_by c.next.result c.next.new.self c.in-Some.column c.in-Some.is c.next.ensures.steps in
    slice_get-get_or c.args.columns.items (length c.loop-column.yielded) c.in-Some.column turn.0 ∙ ap Some (sym turn.1)

-- and where it stands, in any table of these columns
next : (c : goal.In-Some) (at : ℕ) (table : Contents) → AreColumnsAt at table c.args.columns.items c.args.placed.now
    → NextColumn at table c.args.placed.now (length c.loop-column.yielded) c.in-Some.column (slice_index_or c.args.placed.now c.loop-column.index nowhere)
next c at table are =
    next_column at table c.args.columns.items c.args.placed.now c.loop-column.index (length c.loop-column.yielded) c.in-Some.column nowhere are c.loop-column.invariant.2 (there c)

-- its values begin where the columns before it end
start : (c : goal.In-Some) (at : ℕ) (table : Contents) → AreColumnsAt at table c.args.columns.items c.args.placed.now
    → (slice_index_or c.args.placed.now c.loop-column.index nowhere).values ≡ columns_end at (take (length c.loop-column.yielded) table.columns) 0 table.rows
start c at table are = ap (λ (p : Placed). p.values) (next c at table are).stands

pub bounds-placed-index : goal.bounds-placed-index
bounds-placed-index c =
    let many = as_many c.requires.room.0 c.requires.room.1 c.args.columns.items c.args.placed.now c.requires.room.2 in
    let within = slice_get_within c.args.columns.items (length c.loop-column.yielded) c.in-Some.column (there c) in
    omega (arith, within, many.1, c.loop-column.invariant.2)

pub place_column-requires-clause-placed : goal.place_column-requires-clause-placed
place_column-requires-clause-placed c =
    rw (start c.before c.requires.room.0 c.requires.room.1 c.requires.room.2) (next c.before c.requires.room.0 c.requires.room.1 c.requires.room.2).stands

pub place_column-requires-clause-room : goal.place_column-requires-clause-room
place_column-requires-clause-room c =
    let at = c.requires.room.0 in
    let table = c.requires.room.1 in
    let within = columns_end-within at table.columns 0 table.rows (suc (length c.loop-column.yielded)) in
    let same = ap (λ (n : ℕ). n * page) (c.loop-column.invariant.4 at table c.requires.room.2).reserved in
    omega (arith, (next c.before at table c.requires.room.2).end, within, same, c.requires.room.4)

pub place_column-requires-clause-len : goal.place_column-requires-clause-len
place_column-requires-clause-len c =
    let at = c.requires.room.0 in
    let table = c.requires.room.1 in
    rw (start c.before at table c.requires.room.2) (c.loop-column.invariant.5 at table c.requires.room.2 c.requires.room.3)

pub loop-column-preserved : goal.loop-column-preserved
loop-column-preserved c =
    let n = length c.loop-column.yielded in
    let one = slice_index_or c.args.placed.now c.loop-column.index nowhere in
    let before = c.loop-column.memory in
    let after = c.place_column.new.memory in
    let grew = c.place_column.ensures.grows in
    let this = c.before.before in
    let more : length (c.loop-column.yielded ++ c.in-Some.column ∷ []) ≡ suc n = length_push c.loop-column.yielded c.in-Some.column ∙ add-one n in
    rw more (
      tt,
      tt,
      omega (arith, c.loop-column.invariant.2),
      (λ at table are.
          column_more before.octets after.octets at table c.args.columns.items c.args.placed.now n c.in-Some.column one are (next this at table are) grew.below grew.len
          (c.loop-column.invariant.3 at table are) c.place_column.ensures.holds),
      (λ at table are.
          let above = columns-end-above at (take n table.columns) 0 table.rows in
          grows_then c.args.memory.now before after at one.values (omega (arith, start this at table are, above)) (c.loop-column.invariant.4 at table are) grew),
      (λ at table are whole. rw (← (next this at table are).end) c.place_column.ensures.len),
    )

-- all columns have come
count : (c : In-None) → length c.loop-column.yielded ≡ length c.args.columns.items
count c =
    let begins = c.into_iter-column-iterator.ensures.into_iter_gives in
    (YieldsList-end (YieldsList-from_vec c.args.columns.items begins.0 (begins.1 ∙ c.args.columns.ok.0)) c.loop-column.yielded c.loop-column.column-iterator
    c.loop-column.yielded_by c.next.result c.next.new.self c.in-None.is c.next.ensures.steps).1

pub returns-clause-holds : goal.returns-clause-holds
returns-clause-holds c at table are =
    let many = as_many at table c.args.columns.items c.args.placed.now are in
    columns_all c.loop-column.memory.octets at c.args.placed.now table (length c.loop-column.yielded) (omega (arith, count c.before, many.0)) are.placed_are
    (c.loop-column.invariant.3 at table are)

pub returns-clause-len : goal.returns-clause-len
returns-clause-len c at table are whole =
    let many = as_many at table c.args.columns.items c.args.placed.now are in
    rw (take_all (length c.loop-column.yielded) table.columns (omega (arith, count c.before, many.0))) at (c.loop-column.invariant.5 at table are whole)
