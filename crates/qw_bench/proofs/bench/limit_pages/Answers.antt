use Rattle.std.proofs.Common.{ap, ◌∙◌}
use Rattle.std.proofs.lemmas.List.{take_all}
use Rattle.qw_bench.specs.Standing.{limit_pages}
use Rattle.qw_bench.proofs.LimitLemmas.{counted-more}
use Rattle.qw_bench.proofs.bench.limit_pages.Goals as goal

pub loop-one-preserved : goal.loop-one-preserved
loop-one-preserved c =
    counted-more c.args.limits.now c.loop-one.one-index c.loop-one.pages c.from-pages.result _ c.loop-one-test.true c.requires.limits c.from-pages.ensures
    c.loop-one.invariant.0 c.loop-one.invariant.1

pub returns-clause-pages : goal.returns-clause-pages
returns-clause-pages c = c.loop-one.invariant.0 ∙ ap limit_pages (take_all c.loop-one.one-index c.args.limits.now c.loop-one-test.false)
