use Rattle.qw_binary.proofs.ModuleLaws.{one_fault, never_both}
use Rattle.qw_binary.proofs.laws.one_fault.Goals as goal

pub returns-clause-one : goal.returns-clause-one
returns-clause-one c = one_fault

pub returns-clause-never_both : goal.returns-clause-never_both
returns-clause-never_both c = never_both
