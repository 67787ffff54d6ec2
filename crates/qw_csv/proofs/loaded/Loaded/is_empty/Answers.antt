use Rattle.qw_csv.proofs.RowLemmas.{no_rows}
use Rattle.qw_csv.proofs.loaded.Loaded.is_empty.Goals as goal

pub returns : goal.returns
returns c = rw (← c.self.view_is) (no_rows c.self.inside.len c.self.inside.values.items)
