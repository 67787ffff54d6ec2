use Rattle.qw_compile.proofs.Within.{greatest_within, stored_within}
use Rattle.qw_compile.proofs.planned_laws.pages_of_kept_columns.Goals as goal

pub returns-clause-stored : goal.returns-clause-stored
returns-clause-stored c = stored_within

pub returns-clause-greatest : goal.returns-clause-greatest
returns-clause-greatest c = greatest_within
