use Rattle.qw_bench.proofs.Starting.{compiled-answers}
use Rattle.qw_bench.proofs.bench_laws.compiled_answers.Goals as goal

pub returns : goal.returns
returns c = λ tables tasks s acts promise start. compiled-answers tables tasks s acts promise start
