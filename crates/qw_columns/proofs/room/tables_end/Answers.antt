use Rattle.std.proofs.Common.{◌≡◌, Some, add-one, arith, length, refl}
use Rattle.std.specs.Prelude.{slice_get}
use Rattle.qw_map.specs.Columns.{columns_start}
use Rattle.qw_types.specs.Contents.{AreLoaded}
use Rattle.std.proofs.lemmas.Option.{slice_get_read}
use Rattle.qw_columns.proofs.PlaceLemmas.{all-more, tables_end-more}
use Rattle.qw_columns.proofs.room.tables_end.Goals as goal

found : (c : goal.After-columns_end-end) → slice_get c.args.loaded.now c.loop-table.table-index ≡ Some c.table-item.result
found c = slice_get_read c.args.loaded.now (length c.args.loaded.now) c.loop-table.table-index c.table-item.result refl c.loop-table-test.true c.table-item.is

pub loop-table-preserved : goal.loop-table-preserved
loop-table-preserved c =
    rw add-one (record {
      end = rw (tables_end-more columns_start c.args.loaded.now c.loop-table.table-index c.table-item.result (found c), ← c.loop-table.invariant.end) c.columns_end-end.ensures.end;
      limit = omega (arith, c.columns_end-end.ensures.limit, c.loop-table.invariant.limit);
      loaded = all-more AreLoaded c.args.loaded.now c.loop-table.table-index c.table-item.result (found c) c.columns_end-end.ensures.loaded c.loop-table.invariant.loaded;
    })
