use Rattle.std.proofs.Common.{sym}
use Rattle.qw_csv.proofs.RowLemmas.{length-rows_in, stored_loaded}
use Rattle.qw_csv.proofs.loaded.Loaded.len.Goals as goal

pub returns-clause-rows : goal.returns-clause-rows
returns-clause-rows c = rw (← c.self.view_is) (sym (length-rows_in c.self.inside.len c.self.inside.values.items))

pub returns-clause-limits : goal.returns-clause-limits
returns-clause-limits c = rw (← c.self.view_is) (stored_loaded c.self.inside.len c.self.inside.columns.items c.self.inside.values.items c.self.invariant)
