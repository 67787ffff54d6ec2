use Rattle.qw_raise.proofs.RangeLemmas.{column_fits}
use Rattle.qw_raise.proofs.raise_laws.columns_are_in_range.Goals as goal

pub returns : goal.returns
returns c = column_fits
