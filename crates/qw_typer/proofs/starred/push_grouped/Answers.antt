use Rattle.std.proofs.Common.{◌≡◌, ◌+◌, ◌∙◌, ap, arith, rules}
use Rattle.qw_types.specs.declared.schema.Column.{Column}
use Rattle.qw_typer.specs.Inner.Typing.{Refuses, as_grouping}
use Rattle.qw_typer.specs.Meant.{column_grouped}
use Rattle.qw_typer.proofs.FitLemmas.{columns_left_first, columns_left_last, columns_pushed}
use Rattle.qw_typer.proofs.OutcomeLemmas.{refuses_memory}
use Rattle.qw_typer.proofs.StarredLemmas.{column_refused, faultless_end, faultless_first, faultless_kept, own_column, place_meant, starred_end, starred_first, starred_kept}
use Rattle.qw_typer.proofs.starred.push_grouped.Goals as goal

pub loop-index-init : goal.loop-index-init
loop-index-init c = record {
  faultless = faultless_first (as_grouping c.args.grouping.now) c.args.number c.args.columns.now;
  meant = starred_first (as_grouping c.args.grouping.now) c.args.number c.args.columns.now c.args.made.now.items;
  fits = columns_left_first _ _;
}

pub loop-index-preserved : goal.loop-index-preserved
loop-index-preserved c =
    let g = as_grouping c.args.grouping.now in
    let columns = c.args.columns.now in
    let i = c.loop-index.index in
    let column = c.index-columns-index.result in
    let asked : place_meant c.column.result ≡ column_grouped g (own_column (c.first_column-first.result + i) column) = c.column.ensures in
    let found = (rw c.in-Some.is at asked) ∙ ap (λ (k : Column). column_grouped g (own_column (c.first_column-first.result + i) k)) c.index-columns-index.is in
    record {
      faultless = faultless_kept g columns i column c.args.number c.first_column-first.result c.in-Some.place _ c.loop-index-test.true c.first_column-first.ensures found c.loop-index.invariant.faultless;
      meant = starred_kept g columns i column c.args.number c.first_column-first.result c.loop-index.made.items c.push.new.self.items c.in-Some.place _ c.loop-index-test.true c.first_column-first.ensures found (search rules) c.loop-index.invariant.meant;
      fits = columns_pushed columns i column c.loop-index.made.items c.push.new.self.items c.in-Some.place.place c.in-Some.place.ty _ c.loop-index-test.true (search rules) c.loop-index.invariant.fits;
    }

pub returns-in_err-map_err-in-Some-clause-gives : goal.returns-in_err-map_err-in-Some-clause-gives
returns-in_err-map_err-in-Some-clause-gives c = grind (arith, refuses_memory)

pub returns-in-None-clause-gives : goal.returns-in-None-clause-gives
unfolding Refuses
returns-in-None-clause-gives c =
    let g = as_grouping c.args.grouping.now in
    let column = c.index-columns-index.result in
    let asked : place_meant c.column.result ≡ column_grouped g (own_column (c.first_column-first.result + c.loop-index.index) column) = c.column.ensures in
    let found = (rw c.in-None.is at asked) ∙ ap (λ (k : Column). column_grouped g (own_column (c.first_column-first.result + c.loop-index.index) k)) c.index-columns-index.is in
    rw c.as_slice.ensures (column_refused g c.args.columns.now c.loop-index.index column c.args.number c.first_column-first.result _ c.loop-index-test.true c.first_column-first.ensures found c.loop-index.invariant.faultless)

pub returns-clause-gives : goal.returns-clause-gives
returns-clause-gives c = (
  faultless_end (as_grouping c.args.grouping.now) c.args.columns.now c.loop-index.index c.args.number _ c.loop-index-test.false c.loop-index.invariant.faultless,
  starred_end (as_grouping c.args.grouping.now) c.args.columns.now c.loop-index.index c.args.number c.loop-index.made.items _ c.loop-index-test.false c.loop-index.invariant.meant,
)

pub returns-clause-fits : goal.returns-clause-fits
returns-clause-fits c = columns_left_last _ _ _ _ c.loop-index.invariant.fits
