use Rattle.std.proofs.Common.{ap, is_some}
use Rattle.qw_map.specs.Turns.{turns}
use Rattle.qw_map.proofs.Separate.{safe-turns, fine-now, unended-held}
use Rattle.qw_map.proofs.NoTrap.{untrapped-turns}
use Rattle.qw_map.proofs.turn_laws.steps_in_turns_are_fine.Goals as goal

pub returns-clause-fine : goal.returns-clause-fine
returns-clause-fine c = λ behind s ts b t safe k i found none. fine-now behind (turns ts s) (safe-turns behind s ts safe) k i b t found (unended-held i (ap is_some none))

pub returns-clause-no_trap : goal.returns-clause-no_trap
returns-clause-no_trap c = untrapped-turns
