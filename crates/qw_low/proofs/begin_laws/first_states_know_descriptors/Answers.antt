use Rattle.qw_low.proofs.BeginLemmas.{head-known, entries-known, literals-known, zeros-known}
use Rattle.qw_low.proofs.begin_laws.first_states_know_descriptors.Goals as goal

pub returns-clause-head : goal.returns-clause-head
returns-clause-head c = λ layout placed tables descriptor limit memory locals ready. head-known layout placed tables descriptor limit memory ready

pub returns-clause-entries : goal.returns-clause-entries
returns-clause-entries c = λ layout placed tables descriptor limit memory locals ready. entries-known layout placed tables descriptor limit memory ready

pub returns-clause-literals : goal.returns-clause-literals
returns-clause-literals c = λ layout placed tables descriptor limit memory locals ready. literals-known layout placed tables descriptor limit memory ready

pub returns-clause-zeros : goal.returns-clause-zeros
returns-clause-zeros c = λ layout placed tables descriptor limit memory locals ready. zeros-known layout placed tables descriptor limit memory ready
