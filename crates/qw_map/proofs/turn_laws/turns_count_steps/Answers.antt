use Rattle.qw_map.proofs.TurnSteps.{steps_of-ended, steps_of-at_most, steps_of-all, steps_of-some}
use Rattle.qw_map.proofs.turn_laws.turns_count_steps.Goals as goal

pub returns-clause-at_most : goal.returns-clause-at_most
returns-clause-at_most c = steps_of-at_most

pub returns-clause-none : goal.returns-clause-none
returns-clause-none c = steps_of-ended

pub returns-clause-all : goal.returns-clause-all
returns-clause-all c = steps_of-all

pub returns-clause-some : goal.returns-clause-some
returns-clause-some c = steps_of-some
