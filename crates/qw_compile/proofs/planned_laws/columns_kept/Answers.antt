use Rattle.qw_compile.proofs.KeptColumns.{kept_within}
use Rattle.qw_compile.proofs.planned_laws.columns_kept.Goals as goal

pub returns : goal.returns
returns c = kept_within
