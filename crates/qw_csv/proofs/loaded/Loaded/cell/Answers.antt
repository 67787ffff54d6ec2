use Rattle.std.proofs.Common.{◌≡◌, ◌<◌, Some, arith, length}
use Rattle.std.specs.Prelude.{slice_get}
use Rattle.qw_csv.specs.Field.{val_of}
use Rattle.qw_csv.proofs.RowLemmas.{column_found, found, length-rows_in, same_width}
use Rattle.qw_csv.proofs.StorageLemmas.{get_is}
use Rattle.qw_csv.proofs.loaded.Loaded.cell.Goals as goal

width : (c : goal.After-self) → c.args.column < length c.self.inside.values.items
width c =
    let lt = rw (← c.self.view_is) at c.requires.column in
    omega (arith, lt, same_width c.self.inside.len c.self.inside.columns.items c.self.inside.values.items c.self.invariant.kept)

row : (c : goal.After-self) → c.args.row < c.self.inside.len
row c = let lt = rw (← c.self.view_is) at c.requires.row in omega (arith, lt, length-rows_in c.self.inside.len c.self.inside.values.items)

there : (c : goal.After-index) → slice_get c.self.inside.values.items c.args.column ≡ Some c.index.result.now
there c = get_is c.self.inside.values.items c.args.column c.index.result.now (width c.before) c.index.ensures

pub index-requires : goal.index-requires
index-requires c = omega (arith, width c)

pub get-requires-clause-kept : goal.get-requires-clause-kept
get-requires-clause-kept c = (column_found c.self.inside.len c.self.inside.columns.items c.self.inside.values.items c.args.column c.index.result.now c.self.invariant.kept (there c)).0

pub get-requires-clause-row : goal.get-requires-clause-row
get-requires-clause-row c =
    omega (arith, row c.before, (column_found c.self.inside.len c.self.inside.columns.items c.self.inside.values.items c.args.column c.index.result.now c.self.invariant.kept (there c)).1)

pub returns : goal.returns
returns c =
    rw (← c.self.view_is)
    (found c.self.inside.len c.self.inside.values.items c.args.row c.args.column c.index.result.now (val_of c.get.result) (row c.before.before) (there c.before) c.get.ensures)
