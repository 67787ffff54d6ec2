use Rattle.std.proofs.Common.{◌≡◌, ◌∙◌, ◌+◌, ◌++◌, ◌∷◌, [], length, map, take, ap, sym, arith}
use Rattle.std.proofs.lemmas.Grind.{common_steps}
use Rattle.std.proofs.lemmas.List.{length-map, map-append, take_more}
use Rattle.qw_top.specs.Inner.Queries.{asked_of}
use Rattle.qw_typer.specs.declared.query.TypedQuery.{TypedQuery}
use Rattle.qw_top.proofs.ReportLemmas.{AreBlocks-more}
use Rattle.qw_top.proofs.top.report.blocks_of.Goals as goal

pub loop-k-preserved : goal.loop-k-preserved
loop-k-preserved c =
    let b = c.args.bench.now in
    let queries = c.args.queries.now in
    let k = c.loop-k.k in
    let query = c.index-queries-k.result in
    let block = c.in_ok-text.ensures in
    let taken : k ≡ 0 + length (take k queries) = grind (arith, common_steps, c.loop-k-test.true) in
    let n_is : k ≡ 0 + length (map asked_of (take k queries)) = rw (length-map (take k queries) asked_of) taken in
    let more = AreBlocks-more c.args.counts (map asked_of (take k queries)) b 0 (asked_of query) c.loop-k.text.items block.0 k c.loop-k.invariant n_is block.2 in
    let last : take (k + 1) queries ≡ take k queries ++ query ∷ [] = take_more queries k query c.loop-k-test.true ∙ ap (λ (q : TypedQuery). take k queries ++ q ∷ []) (sym c.index-queries-k.is) in
    rw (last, block.1, map-append asked_of (take k queries) (query ∷ [])) more
