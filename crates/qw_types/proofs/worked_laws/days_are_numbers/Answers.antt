use Rattle.qw_types.proofs.DayLemmas.{day_is, is_day_of}
use Rattle.qw_types.proofs.worked_laws.days_are_numbers.Goals as goal

pub returns-clause-days : goal.returns-clause-days
returns-clause-days c = day_is

pub returns-clause-numbers : goal.returns-clause-numbers
returns-clause-numbers c = is_day_of
