use Rattle.qw_top.proofs.SettleLemmas.{kind_of_end, kinds_apart}
use Rattle.qw_top.proofs.top.kinds_of_ends.Goals as goal

pub returns-clause-one : goal.returns-clause-one
returns-clause-one c = kind_of_end

pub returns-clause-apart : goal.returns-clause-apart
returns-clause-apart c = kinds_apart
