use Rattle.qw_meaning.specs.Select.{entries_of}
use Rattle.qw_grouped.specs.Whole.{sources_in}
use Rattle.qw_whole.specs.Layouts.{columns_read}
use Rattle.qw_whole.proofs.LayoutLemmas.{used_once}
use Rattle.qw_whole.proofs.layout_laws.columns_are_told.Goals as goal

pub returns : goal.returns
returns c = λ whole a b h g. used_once (entries_of (sources_in whole.body)) (columns_read whole.body) a.columns b.columns h.columns g.columns
