use Rattle.qw_map.proofs.TurnSteps.{turn-others, turns-many, steps_of-added, turn-added}
use Rattle.qw_map.proofs.turn_laws.turns_are_of_one_instance.Goals as goal

pub returns-clause-others : goal.returns-clause-others
returns-clause-others c = turn-others

pub returns-clause-many : goal.returns-clause-many
returns-clause-many c = turns-many

pub returns-clause-steps : goal.returns-clause-steps
returns-clause-steps c = steps_of-added

pub returns-clause-turn : goal.returns-clause-turn
returns-clause-turn c = turn-added
