use Rattle.qw_whole.proofs.PlanBounds.{same_pages, same_taken, same_units}
use Rattle.qw_whole.proofs.plan_laws.bounds_of_plans.Goals as goal

pub returns-clause-units : goal.returns-clause-units
returns-clause-units c = same_units

pub returns-clause-taken : goal.returns-clause-taken
returns-clause-taken c = same_taken

pub returns-clause-pages : goal.returns-clause-pages
returns-clause-pages c = same_pages
