use Rattle.std.proofs.Common.{◌≡◌, ◌<◌, arith, length}
use Rattle.qw_csv.proofs.CellLemmas.{values_kept}
use Rattle.qw_csv.proofs.RowLemmas.{column_there, same_width}
use Rattle.qw_csv.proofs.StorageLemmas.{get_is}
use Rattle.qw_csv.proofs.loaded.Loaded.cells.Goals as goal

width : (c : goal.After-self) → c.args.column < length c.self.inside.values.items
width c =
    let lt = rw (← c.self.view_is) at c.requires in
    omega (arith, lt, same_width c.self.inside.len c.self.inside.columns.items c.self.inside.values.items c.self.invariant.kept)

pub index-requires : goal.index-requires
index-requires c = omega (arith, width c)

pub returns : goal.returns
returns c type is =
    let h = column_there c.self.inside.len c.self.inside.columns.items c.self.inside.values.items c.args.column type c.self.invariant.kept (rw (← c.self.view_is) at is) in
    let same : h.kept ≡ c.index.result.now = cc (h.there, get_is c.self.inside.values.items c.args.column c.index.result.now (width c.before.before) c.index.ensures) in
    let cells = c.cells.ensures type (rw same at h.valid) in
    rw (← c.self.view_is, values_kept c.self.inside.values.items c.args.column h.kept c.self.inside.len h.there h.long, same) cells
