use Rattle.qw_csv.proofs.loaded_column.LoadedColumn.cells.Goals as goal

pub returns : goal.returns
returns c = rw (← c.self.view_is) (c.cells.ensures c.self.inside.column_type c.self.invariant.kept)
