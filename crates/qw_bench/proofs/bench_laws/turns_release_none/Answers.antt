use Rattle.qw_bench.proofs.Unreleased.{turns-released}
use Rattle.qw_bench.proofs.bench_laws.turns_release_none.Goals as goal

pub returns : goal.returns
returns c = turns-released
