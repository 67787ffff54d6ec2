use Rattle.qw_machine.proofs.Begins.{valid-begins-typed}
use Rattle.qw_machine.proofs.laws.valid_modules_begin_typed.Goals as goal

pub returns : goal.returns
returns c = valid-begins-typed
