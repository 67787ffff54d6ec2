use Rattle.std.proofs.Common.{◌≡◌, ◌∙◌, ℕ, ap, arith, length, map}
use Rattle.std.specs.Prelude.{replicate}
use Rattle.std.proofs.lemmas.Result.{err_from_is_err_and}
use Rattle.qw_command_line.specs.Read.{options_of}
use Rattle.qw_top.specs.Limits.{limits_of}
use Rattle.qw_top.specs.Top.{same_limits}
use Rattle.qw_top.specs.Inner.Queries.{asked_of}
use Rattle.qw_top.proofs.BenchLemmas.{HasRun-from, each_limits, jobs_columns, jobs_compiled, many_jobs, same_many}
use Rattle.qw_top.proofs.top.run.finished.Goals as goal

pub begun-requires-clause-few : goal.begun-requires-clause-few
begun-requires-clause-few c =
    let many = same_many c.args.schema.now c.args.tables.items c.requires.tables in
    let few = c.requires.few in
    omega (arith, many, few)

pub begun-requires-clause-few_jobs : goal.begun-requires-clause-few_jobs
begun-requires-clause-few_jobs c =
    let many = many_jobs c.args.schema.now c.args.queries.now c.in_ok-jobs.jobs.items c.in_ok-jobs.ensures in
    let few = c.requires.few_queries in
    omega (arith, many, few)

pub begun-requires-clause-columns : goal.begun-requires-clause-columns
begun-requires-clause-columns c = jobs_columns c.args.schema.now c.args.tables.items c.args.queries.now c.in_ok-jobs.jobs.items c.requires.tables c.in_ok-jobs.ensures

pub returns-in_err-bench-clause-stops : goal.returns-in_err-bench-clause-stops
returns-in_err-bench-clause-stops c =
    let p = err_from_is_err_and c.from_residual-in_err-bench.result c.from_residual-in_err-bench.ensures.1 in
    let queries = c.args.queries.now in
    let limits : replicate (length c.in_ok-jobs.jobs.items) (limits_of (options_of c.args.options)) ≡ same_limits (limits_of (options_of c.args.options)) (map asked_of queries) =
    ap (λ (n : ℕ). replicate n (limits_of (options_of c.args.options))) (many_jobs c.args.schema.now queries c.in_ok-jobs.jobs.items c.in_ok-jobs.ensures) ∙ each_limits (limits_of (options_of c.args.options)) queries in
    rw (p.1, p.2) (rw limits at c.in_err-bench.ensures.stops)

pub returns-clause-ran : goal.returns-clause-ran
returns-clause-ran c =
    let queries = c.args.queries.now in
    let jobs = c.in_ok-jobs.jobs.items in
    let limits : replicate (length jobs) (limits_of (options_of c.args.options)) ≡ same_limits (limits_of (options_of c.args.options)) (map asked_of queries) =
    ap (λ (n : ℕ). replicate n (limits_of (options_of c.args.options))) (many_jobs c.args.schema.now queries jobs c.in_ok-jobs.ensures) ∙ each_limits (limits_of (options_of c.args.options)) queries in
    HasRun-from (limits_of (options_of c.args.options)) c.args.options.quantum c.args.tables.items (map asked_of queries) jobs c.in_ok-bench.bench c.run_all.new.self
    (rw limits at c.in_ok-bench.ensures.room) c.requires.read (jobs_compiled c.args.schema.now queries jobs c.in_ok-jobs.ensures) (rw limits at c.in_ok-bench.ensures.tasks) c.in_ok-bench.ensures.start c.run_all.ensures.tasks
    c.run_all.ensures.rounds c.run_all.ensures.ended
