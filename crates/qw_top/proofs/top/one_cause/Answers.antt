use Rattle.qw_command_line.specs.Words.{reading}
use Rattle.qw_top.proofs.CallLemmas.{ends_by, one_settled_by}
use Rattle.qw_top.proofs.SettleLemmas.{cause_is_refusal}
use Rattle.qw_top.proofs.top.one_cause.Goals as goal

pub returns-clause-one : goal.returns-clause-one
returns-clause-one c told words cause other h k = one_settled_by told c.one_answer.ensures.one c.one_answer.ensures.never_both (reading words) cause other h k

pub returns-clause-refusal : goal.returns-clause-refusal
returns-clause-refusal c = cause_is_refusal

pub returns-clause-ends : goal.returns-clause-ends
returns-clause-ends c told words cause kept status h why = ends_by told c.one_answer.ensures.one c.one_answer.ensures.never_both (reading words) cause kept status h why
