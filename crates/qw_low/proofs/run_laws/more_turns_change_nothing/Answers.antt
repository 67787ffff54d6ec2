use Rattle.qw_low.proofs.FuelLemmas.{more_fuel}
use Rattle.qw_low.proofs.run_laws.more_turns_change_nothing.Goals as goal

pub returns : goal.returns
returns c = more_fuel
