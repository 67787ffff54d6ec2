use Rattle.std.proofs.Common.{add-one, arith}
use Rattle.qw_columns.proofs.PlaceLemmas.{next_end}
use Rattle.qw_columns.proofs.room.columns_end.Goals as goal

pub placed_at-requires-clause-small : goal.placed_at-requires-clause-small
placed_at-requires-clause-small c =
    omega (arith, c.requires, c.loop-column.invariant.limit, c.width-column-end.ensures.columns, c.width-column-end.ensures.limits.narrow, c.loop-column-test.true)

pub column_end-end-requires-clause-small : goal.column_end-end-requires-clause-small
column_end-end-requires-clause-small c =
    omega (arith, c.requires, c.loop-column.invariant.limit, c.width-column-end.ensures.columns, c.width-column-end.ensures.limits.narrow, c.loop-column-test.true, c.placed_at.ensures.limit)

pub loop-column-preserved : goal.loop-column-preserved
loop-column-preserved c =
    let type = c.column_type.result in
    rw add-one (record {
      end = next_end c.args.at c.args.loaded.now.columns c.args.loaded.now.rows c.loop-column.column type c.loop-column.end c.column_end-end.result c.placed_at.result
          c.column_type.ensures c.loop-column.invariant.end (c.placed_at.ensures.placed type c.column_type.ensures) c.column_end-end.ensures.end;
      limit = omega (arith, c.column_end-end.ensures.limit, c.placed_at.ensures.limit, c.loop-column.invariant.limit);
    })

pub returns-clause-limit : goal.returns-clause-limit
returns-clause-limit c =
    omega (arith, c.loop-column.invariant.limit, c.width-column-end.ensures.columns, c.width-column-end.ensures.limits.narrow, c.loop-column.auto.column-end)

pub returns-clause-loaded : goal.returns-clause-loaded
returns-clause-loaded c = c.width-column-end.ensures.limits
