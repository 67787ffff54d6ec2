use Rattle.std.proofs.Common.{refl}
use Rattle.qw_typer.proofs.grouped_laws.worked_distinct.Goals as goal

pub returns-clause-distinct : goal.returns-clause-distinct
returns-clause-distinct c = refl

pub returns-clause-all : goal.returns-clause-all
returns-clause-all c = refl

pub returns-clause-grouped : goal.returns-clause-grouped
returns-clause-grouped c = refl

pub returns-clause-body : goal.returns-clause-body
returns-clause-body c schema query = refl

pub returns-clause-faults : goal.returns-clause-faults
returns-clause-faults c schema query = refl
