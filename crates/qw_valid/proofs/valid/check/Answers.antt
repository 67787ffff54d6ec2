use Rattle.qw_valid.proofs.Faults.{valid_if_functions}
use Rattle.qw_valid.proofs.valid.check.Goals as goal

pub returns-clause-valid : goal.returns-clause-valid
returns-clause-valid c = valid_if_functions c.check_functions.result c.args.module.now c.in_ok-check_parts.ensures.valid c.check_functions.ensures.valid
