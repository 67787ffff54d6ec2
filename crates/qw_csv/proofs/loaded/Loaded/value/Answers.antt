use Rattle.std.proofs.Common.{◌≡◌, ◌<◌, Some, arith, rules, w32}
use Rattle.std.specs.Prelude.{FitsSigned, slice_get}
use Rattle.std.proofs.lemmas.Int.{to_z-of_z}
use Rattle.qw_types.specs.declared.value.Val.TheVariants.{Num}
use Rattle.qw_csv.specs.Contents.{integer_column}
use Rattle.qw_csv.specs.Inner.Storage.{values_in}
use Rattle.qw_csv.proofs.RowLemmas.{Column, column_there, found, length-rows_in}
use Rattle.qw_csv.proofs.StorageLemmas.{get_below, get_is}
use Rattle.qw_csv.proofs.loaded.Loaded.value.Goals as goal

column : (c : goal.After-self) → Column c.self.inside.len integer_column c.self.inside.values.items c.args.column
column c = column_there c.self.inside.len c.self.inside.columns.items c.self.inside.values.items c.args.column integer_column c.self.invariant.kept (rw (← c.self.view_is) at c.requires.column)

pub index-requires : goal.index-requires
index-requires c = omega (arith, get_below c.self.inside.values.items c.args.column (column c).kept (column c).there)

same : (c : goal.After-index) → (column c.before).kept ≡ c.index.result.now
same c =
    let h = column c.before in
    cc (h.there, get_is c.self.inside.values.items c.args.column c.index.result.now (get_below c.self.inside.values.items c.args.column h.kept h.there) c.index.ensures)

pub integer-requires-clause-kept : goal.integer-requires-clause-kept
integer-requires-clause-kept c = rw (← same c) (column c.before).valid

row : (c : goal.After-self) → c.args.row < c.self.inside.len
row c = let lt = rw (← c.self.view_is) at c.requires.row in omega (arith, lt, length-rows_in c.self.inside.len c.self.inside.values.items)

pub integer-requires-clause-row : goal.integer-requires-clause-row
integer-requires-clause-row c = rw (← same c) (omega (arith, row c.before, (column c.before).long))

pub returns : goal.returns
returns c =
    let range : FitsSigned w32 c.integer.result = search rules in
    let h = column c.before.before in
    let value : slice_get (values_in h.kept) c.args.row ≡ Some (Num c.integer.result) = rw (same c.before) c.integer.ensures in
    rw (to_z-of_z w32 c.integer.result range, ← c.self.view_is)
    (found c.self.inside.len c.self.inside.values.items c.args.row c.args.column h.kept (Num c.integer.result) (row c.before.before) h.there value)
