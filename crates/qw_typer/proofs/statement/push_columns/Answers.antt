use Rattle.std.proofs.Common.{rules}
use Rattle.qw_typer.proofs.FitLemmas.{columns_left_first, columns_left_last, columns_pushed}
use Rattle.qw_typer.proofs.StepLemmas.{column_kept, columns_end, columns_first}
use Rattle.qw_typer.proofs.statement.push_columns.Goals as goal

pub loop-index-init : goal.loop-index-init
loop-index-init c = record {
  meant = columns_first c.args.number c.args.columns.now c.args.made.now.items;
  fits = columns_left_first _ _;
}

pub loop-index-preserved : goal.loop-index-preserved
loop-index-preserved c =
    let columns = c.args.columns.now in
    let i = c.loop-index.index in
    let column = c.index-columns-index.result in
    record {
      meant = column_kept columns i column c.args.number c.first_column-first.result c.loop-index.made.items c.push.new.self.items _ c.loop-index-test.true c.first_column-first.ensures (search rules) c.loop-index.invariant.meant;
      fits = columns_pushed columns i column c.loop-index.made.items c.push.new.self.items _ column.ty _ c.loop-index-test.true c.in_ok-push.ensures.items c.loop-index.invariant.fits;
    }

pub returns-clause-gives : goal.returns-clause-gives
returns-clause-gives c = columns_end c.args.columns.now c.loop-index.index c.args.number c.loop-index.made.items _ c.loop-index-test.false c.loop-index.invariant.meant

pub returns-clause-fits : goal.returns-clause-fits
returns-clause-fits c = columns_left_last _ _ _ _ c.loop-index.invariant.fits
