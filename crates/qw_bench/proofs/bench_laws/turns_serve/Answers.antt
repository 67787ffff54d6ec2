use Rattle.qw_bench.proofs.Serving.{turns-serving}
use Rattle.qw_bench.proofs.Starting.{start-serving}
use Rattle.qw_bench.proofs.bench_laws.turns_serve.Goals as goal

pub returns-clause-start : goal.returns-clause-start
returns-clause-start c = λ tables tasks s start. start-serving tables tasks s start

pub returns-clause-turns : goal.returns-clause-turns
returns-clause-turns c = λ tables tasks s acts serving. turns-serving tables tasks s serving acts
