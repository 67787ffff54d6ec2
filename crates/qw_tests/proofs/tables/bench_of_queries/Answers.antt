use Rattle.std.proofs.Common.{List, [], ◌∷◌, ◌++◌}
use Rattle.std.specs.List.{AllByRecursion}
use Rattle.qw_bench.specs.Bench.{IsColumnIn, Program}
use Rattle.qw_tests.proofs.tables.bench_of_queries.Goals as goal

one_more : (P : Program → Type 0) (jobs : List Program) (job : Program) → AllByRecursion P jobs → P job → AllByRecursion P (jobs ++ job ∷ [])
one_more P [] job all is = (is, tt)
one_more P (first ∷ jobs) job all is = (all.0, one_more P jobs job all.1 is)

pub loop-query-preserved : goal.loop-query-preserved
loop-query-preserved c =
    let tables = c.args.tables.items in
    rw c.in_ok-push.ensures.items
    (one_more (λ (job : Program). AllByRecursion (IsColumnIn tables) job.layout.columns) c.loop-query.jobs.items c.in_ok-job_of.field-0 c.loop-query.invariant
    (c.in_ok-job_of.ensures.columns tables c.requires.tables))
