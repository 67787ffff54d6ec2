use Rattle.std.proofs.Common.{◌∙◌, add-one, arith, sym, take_all}
use Rattle.qw_map.specs.Columns.{placed_columns}
use Rattle.qw_columns.proofs.PlaceLemmas.{length-placed_columns, next_end, placed_more, take-more}
use Rattle.qw_columns.proofs.column_map.table_map.Goals as goal

pub loop-column-preserved : goal.loop-column-preserved
loop-column-preserved c =
    let columns = c.args.loaded.now.columns in
    let rows = c.args.loaded.now.rows in
    let k = c.loop-column.column in
    let type = c.column_type-column_type.result in
    let found = c.column_type-column_type.ensures in
    let stands = c.placed_at-one.ensures.placed type found in
    rw add-one (record {
      end = next_end c.args.at columns rows k type c.loop-column.end c.column_end-end.result c.placed_at-one.result found c.loop-column.invariant.end stands c.column_end-end.ensures.end;
      limit = omega (arith, c.column_end-end.ensures.limit, c.placed_at-one.ensures.limit, c.loop-column.invariant.limit);
      columns = rw (c.in_ok-push.ensures.items, c.loop-column.invariant.columns) (sym (take-more columns k type found));
      placed = rw (c.in_ok-push-2.ensures.items, c.loop-column.invariant.placed)
          (sym (placed_more c.args.at columns rows k type c.loop-column.end c.placed_at-one.result found c.loop-column.invariant.end stands));
    })

pub returns-clause-placed : goal.returns-clause-placed
returns-clause-placed c =
    let whole = take_all c.loop-column.column (placed_columns c.args.at c.args.loaded.now.columns 0 c.args.loaded.now.rows)
    (omega (arith, c.loop-column-test.false, c.width-column-end.ensures.columns, length-placed_columns c.args.at c.args.loaded.now.columns 0 c.args.loaded.now.rows)) in
    c.loop-column.invariant.placed ∙ whole
