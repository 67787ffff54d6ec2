use Rattle.std.proofs.Common.{refl, arith}
use Rattle.qw_linear.specs.Memory.{page}
use Rattle.qw_low.proofs.BeginLemmas.{ready-stands}
use Rattle.qw_low.proofs.begin_laws.ready_memories_stand.Goals as goal

pub returns-clause-stands : goal.returns-clause-stands
returns-clause-stands c = λ layout placed tables descriptor limit memory locals ready small. ready-stands layout placed tables descriptor limit memory ready small locals

pub returns-clause-argument : goal.returns-clause-argument
returns-clause-argument c = λ layout placed descriptor limit. (record { start = descriptor; size = page }, refl, omega arith, omega arith)
