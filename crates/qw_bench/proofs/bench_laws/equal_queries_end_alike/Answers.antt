use Rattle.qw_bench.proofs.SteadyTurns.{equal-turns}
use Rattle.qw_bench.proofs.bench_laws.equal_queries_end_alike.Goals as goal

pub returns : goal.returns
returns c = λ tables others tasks others_tasks s t acts others_acts promise start other_start.
    equal-turns tables others tasks others_tasks s t acts others_acts promise start other_start
