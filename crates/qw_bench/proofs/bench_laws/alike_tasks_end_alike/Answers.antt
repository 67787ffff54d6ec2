use Rattle.qw_bench.proofs.SteadyTurns.{steady-turns}
use Rattle.qw_bench.proofs.bench_laws.alike_tasks_end_alike.Goals as goal

pub returns : goal.returns
returns c = λ tables others tasks others_tasks s t acts others_acts start other_start. steady-turns tables others tasks others_tasks s t acts others_acts start other_start
