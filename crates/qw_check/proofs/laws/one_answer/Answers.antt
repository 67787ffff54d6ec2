use Rattle.qw_check.proofs.FaultLemmas.{none_of_valid, one_fault}
use Rattle.qw_check.proofs.laws.one_answer.Goals as goal

pub returns-clause-one : goal.returns-clause-one
returns-clause-one c = λ text. one_fault text (c.one_module.ensures text) (c.one_fault.ensures.one text) (c.one_fault.ensures.never_both text)

pub returns-clause-never_both : goal.returns-clause-never_both
returns-clause-never_both c = λ text. none_of_valid text (c.one_module.ensures text) (c.one_fault.ensures.one text) (c.one_fault.ensures.never_both text)
