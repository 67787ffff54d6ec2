use Rattle.qw_low.proofs.BeginLemmas.{values-known, nulls-known}
use Rattle.qw_low.proofs.begin_laws.first_states_know_columns.Goals as goal

pub returns-clause-values : goal.returns-clause-values
returns-clause-values c = λ layout placed tables descriptor limit memory locals ready. values-known layout placed tables descriptor limit memory ready

pub returns-clause-nulls : goal.returns-clause-nulls
returns-clause-nulls c = λ layout placed tables descriptor limit memory locals ready. nulls-known layout placed tables descriptor limit memory ready
