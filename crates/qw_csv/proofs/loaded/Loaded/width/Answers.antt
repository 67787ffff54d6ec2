use Rattle.qw_csv.proofs.RowLemmas.{stored_loaded}
use Rattle.qw_csv.proofs.loaded.Loaded.width.Goals as goal

pub returns-clause-limits : goal.returns-clause-limits
returns-clause-limits c = rw (← c.self.view_is) (stored_loaded c.self.inside.len c.self.inside.columns.items c.self.inside.values.items c.self.invariant)
