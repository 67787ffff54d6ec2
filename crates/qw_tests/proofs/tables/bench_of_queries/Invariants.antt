use Rattle.std.specs.List.{AllByRecursion}
use Rattle.qw_bench.specs.Bench.{IsColumnIn, Program}
use Rattle.qw_tests.proofs.tables.bench_of_queries.Given as goal

abbrev pub invariant-loop-query : goal.invariant-loop-query
invariant-loop-query l = AllByRecursion (λ (job : Program). AllByRecursion (IsColumnIn l.tables.items) job.layout.columns) l.jobs.items
