use Rattle.qw_check.proofs.CheckLemmas.{faulty_text, valid_text}
use Rattle.qw_check.proofs.check.check.Goals as goal

pub returns-clause-valid : goal.returns-clause-valid
returns-clause-valid c = valid_text c.in_ok-module.«module» c.args.octets.now c.in_ok-module.ensures.found c.check_module.result c.check_module.ensures.valid

pub returns-clause-fault : goal.returns-clause-fault
returns-clause-fault c = faulty_text c.in_ok-module.«module» c.args.octets.now c.in_ok-module.ensures.found c.check_module.result c.check_module.ensures.fault
