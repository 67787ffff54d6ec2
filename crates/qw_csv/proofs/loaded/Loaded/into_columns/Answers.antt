use Rattle.std.proofs.Common.{◌≡◌, ◌<◌, ◌∙◌, add-one, ap, arith, length, sym, Some, take_all}
use Rattle.std.specs.Prelude.{get_or, slice_get}
use Rattle.std.proofs.lemmas.Iterator.Adapters.{YieldsList-from_vec}
use Rattle.std.proofs.lemmas.Iterator.Consumers.{YieldsList-end, YieldsList-turn}
use Rattle.std.proofs.lemmas.List.{length-take-le, length_push}
use Rattle.qw_csv.specs.LoadedColumn.{columns_of}
use Rattle.qw_csv.proofs.ColumnLemmas.{column_stored, columns_next}
use Rattle.qw_csv.proofs.LoadedColumnFacts.{length-columns_from}
use Rattle.qw_csv.proofs.RowLemmas.{same_width}
use Rattle.qw_csv.proofs.StorageLemmas.{get_is}
use Rattle.qw_csv.proofs.loaded.Loaded.into_columns.Goals as goal

-- the values that come next, and where they are kept
turn : (c : goal.After-len-in-loop-kept) → (length c.loop-kept.yielded < length c.into_parts-types.result.1.items)
    × (c.in-Some.kept ≡ get_or c.into_parts-types.result.1.items (length c.loop-kept.yielded) c.in-Some.kept)
turn c =
    let begins = c.into_iter-kept-iterator.ensures.into_iter_gives in
    YieldsList-turn (YieldsList-from_vec c.into_parts-types.result.1.items begins.0 (begins.1 ∙ c.into_parts-types.result.1.ok.0)) c.loop-kept.yielded c.loop-kept.kept-iterator
    c.loop-kept.yielded_by c.next.result c.next.new.self c.in-Some.kept c.in-Some.is c.next.ensures.steps

within : (c : goal.After-len-in-loop-kept) → length c.loop-kept.yielded < length c.into_parts-types.result.0.items
within c =
    let wide = same_width c.into_parts-types.result.2 c.into_parts-types.result.0.items c.into_parts-types.result.1.items c.into_parts-types.ensures.stored.kept in
    omega (arith, (turn c).0, wide)

-- as many columns were made before
index : (c : goal.After-len-in-loop-kept) → c.len-in-loop-kept.result ≡ length c.loop-kept.yielded
index c =
    let n = length c.loop-kept.yielded in
    let columns = columns_of c.args.self in
    let long = length-columns_from c.args.self.columns 0 c.args.self.rows ∙ ap length (sym c.into_parts-types.ensures.columns) in
    c.len-in-loop-kept.ensures ∙ c.loop-kept.columns.ok.0 ∙ ap length c.loop-kept.invariant.2 ∙ length-take-le n columns (omega (arith, long, within c))

pub index-requires : goal.index-requires
index-requires c = omega (arith, index c, within c, c.into_parts-types.result.0.ok.0)

there : (c : goal.After-len-in-loop-kept) → slice_get c.into_parts-types.result.1.items (length c.loop-kept.yielded) ≡ Some c.in-Some.kept
there c = get_is c.into_parts-types.result.1.items (length c.loop-kept.yielded) c.in-Some.kept (turn c).0 (turn c).1

found : (c : goal.After-new-arg-1) → slice_get c.into_parts-types.result.0.items (length c.loop-kept.yielded) ≡ Some c.index.result.now
found c =
    rw (index c.before.before) at
    (get_is c.into_parts-types.result.0.items c.len-in-loop-kept.result c.index.result.now (omega (arith, index c.before.before, within c.before.before)) c.index.ensures)

pub new-column-requires : goal.new-column-requires
new-column-requires c =
    column_stored c.into_parts-types.result.2 c.into_parts-types.result.0.items c.into_parts-types.result.1.items (length c.loop-kept.yielded) c.index.result.now
    c.in-Some.kept c.into_parts-types.ensures.stored (found c) (there c.before.before)

pub loop-kept-preserved : goal.loop-kept-preserved
loop-kept-preserved c =
    let made = c.before.before.before.before.before in
    let next = columns_next c.into_parts-types.result.2 c.into_parts-types.result.0.items c.into_parts-types.result.1.items (length c.loop-kept.yielded) c.index.result.now
    c.in-Some.kept c.into_parts-types.ensures.stored (found made) (there made.before.before) in (
      tt,
      tt,
      rw (length_push c.loop-kept.yielded c.in-Some.kept, add-one, c.in_ok-push.ensures.items, c.loop-kept.invariant.2, c.new-column.ensures)
          (sym (rw (c.into_parts-types.ensures.columns, c.into_parts-types.ensures.rows) at next)),
    )

pub returns : goal.returns
returns c =
    let begins = c.into_iter-kept-iterator.ensures.into_iter_gives in
    let end = YieldsList-end (YieldsList-from_vec c.into_parts-types.result.1.items begins.0 (begins.1 ∙ c.into_parts-types.result.1.ok.0)) c.loop-kept.yielded c.loop-kept.kept-iterator
    c.loop-kept.yielded_by c.next.result c.next.new.self c.in-None.is c.next.ensures.steps in
    let wide = same_width c.into_parts-types.result.2 c.into_parts-types.result.0.items c.into_parts-types.result.1.items c.into_parts-types.ensures.stored.kept in
    let long = length-columns_from c.args.self.columns 0 c.args.self.rows ∙ ap length (sym c.into_parts-types.ensures.columns) in
    c.loop-kept.invariant.2 ∙ take_all (length c.loop-kept.yielded) (columns_of c.args.self) (omega (arith, end.1, wide, long))
