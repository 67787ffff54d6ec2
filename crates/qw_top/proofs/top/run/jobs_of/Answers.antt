use Rattle.std.proofs.Common.{◌≡◌, ◌∙◌, ◌+◌, ◌++◌, ◌∷◌, [], ap, sym, take}
use Rattle.std.proofs.lemmas.List.{take_more}
use Rattle.qw_typer.specs.declared.query.TypedQuery.{TypedQuery}
use Rattle.qw_top.proofs.BenchLemmas.{jobs_more}
use Rattle.qw_top.proofs.top.run.jobs_of.Goals as goal

pub loop-query-preserved : goal.loop-query-preserved
loop-query-preserved c =
    let queries = c.args.queries.now in
    let i = c.loop-query.query-index in
    let query = c.query-item.result in
    let last : take (i + 1) queries ≡ take i queries ++ query ∷ [] = take_more queries i query c.loop-query-test.true ∙ ap (λ (q : TypedQuery). take i queries ++ q ∷ []) (sym c.query-item.is) in
    rw (last, c.in_ok-push.ensures.items)
    (jobs_more c.args.schema.now (take i queries) c.loop-query.jobs.items query c.in_ok-job_of.field-0 c.loop-query.invariant c.in_ok-job_of.ensures)
