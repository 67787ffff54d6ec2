use Rattle.std.proofs.Common.{List, ◌∷◌, [], ◌++◌, ◌+◌, take, sym, subst}
use Rattle.std.proofs.lemmas.List.{take_more}
use Rattle.qw_map.specs.declared.layout.Used.{Used}
use Rattle.qw_bench.specs.Bench.{ArePlaced}
use Rattle.qw_bench.proofs.LayoutLemmas.{placed-more}
use Rattle.qw_bench.proofs.bench.start.placed_columns.Goals as goal

pub loop-used-preserved : goal.loop-used-preserved
loop-used-preserved c =
    let map = c.args.map.now.placed in
    let n = c.loop-used.used-index in
    subst (ArePlaced map (take (n + 1) c.args.columns.now)) (sym c.in_ok-push.ensures.items)
    (subst (λ (columns : List Used). ArePlaced map columns (c.loop-used.placed.items ++ c.placed.result ∷ [])) (sym (take_more c.args.columns.now n _ c.loop-used-test.true))
    (placed-more map (take n c.args.columns.now) c.loop-used.placed.items _ c.placed.result c.loop-used.invariant c.placed.ensures))
