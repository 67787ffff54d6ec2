use Rattle.std.proofs.Common.{◌≡◌, ◌∙◌, Some, add-one, arith, ap, length, map, refl, take_all}
use Rattle.std.specs.Prelude.{slice_get}
use Rattle.std.proofs.lemmas.Option.{slice_get_read, slice_get-map}
use Rattle.qw_map.specs.Columns.{columns_start, placed_tables}
use Rattle.std.specs.Option.{option_map}
use Rattle.std.proofs.lemmas.List.{length-map}
use Rattle.qw_types.specs.Contents.{Contents}
use Rattle.qw_columns.specs.declared.column_map.TableMap.{TableMap}
use Rattle.qw_columns.proofs.PlaceLemmas.{length-placed_tables, map-more, placed_tables-at, tables_end-more}
use Rattle.qw_columns.proofs.column_map.map_of.Goals as goal

pub loop-table-preserved : goal.loop-table-preserved
loop-table-preserved c =
    let found : slice_get c.args.loaded.now c.loop-table.table-index ≡ Some c.table-item.result =
    slice_get_read c.args.loaded.now (length c.args.loaded.now) c.loop-table.table-index c.table-item.result refl c.loop-table-test.true c.table-item.is in
    rw add-one (record {
      at = rw (tables_end-more columns_start c.args.loaded.now c.loop-table.table-index c.table-item.result found, ← c.loop-table.invariant.at) c.in_ok-map.ensures.end;
      limit = omega (arith, c.in_ok-map.ensures.limit, c.loop-table.invariant.limit);
      columns = rw (c.in_ok-push.ensures.items)
          (map-more (λ (table : TableMap). table.columns.items) c.loop-table.tables.items c.in_ok-map.map (map (λ (table : Contents). table.columns) c.args.loaded.now)
          c.loop-table.table-index c.table-item.result.columns c.loop-table.invariant.columns
          (slice_get-map (λ (table : Contents). table.columns) c.args.loaded.now c.loop-table.table-index ∙ ap (option_map (λ (table : Contents). table.columns)) found)
          c.in_ok-map.ensures.columns);
      placed = rw (c.in_ok-push.ensures.items)
          (map-more (λ (table : TableMap). table.placed.items) c.loop-table.tables.items c.in_ok-map.map (placed_tables columns_start c.args.loaded.now)
          c.loop-table.table-index _ c.loop-table.invariant.placed
          (placed_tables-at columns_start c.args.loaded.now c.loop-table.table-index c.table-item.result found)
          (rw (← c.loop-table.invariant.at) c.in_ok-map.ensures.placed));
    })

pub returns-clause-placed : goal.returns-clause-placed
returns-clause-placed c =
    let whole = take_all c.loop-table.table-index (placed_tables columns_start c.args.loaded.now)
    (omega (arith, c.loop-table-test.false, length-placed_tables columns_start c.args.loaded.now)) in
    c.loop-table.invariant.placed ∙ whole

pub returns-clause-columns : goal.returns-clause-columns
returns-clause-columns c =
    let whole = take_all c.loop-table.table-index (map (λ (table : Contents). table.columns) c.args.loaded.now)
    (omega (arith, c.loop-table-test.false, length-map c.args.loaded.now (λ (table : Contents). table.columns))) in
    c.loop-table.invariant.columns ∙ whole
