use Rattle.qw_scalar.specs.Texts.{texts_within}
use Rattle.qw_scalar.specs.Nodes.{nodes_of}
use Rattle.qw_meaning.specs.Query.{source_of}
use Rattle.qw_meaning.specs.declared.query.Source.{Source}
use Rattle.qw_algebra.specs.Sizes.{tests_in}
use Rattle.qw_compile_whole.proofs.FrontCopies.{next_mapped, next_several}
use Rattle.qw_compile_whole.proofs.front.copy_sources.Goals as goal

pub loop-source-preserved : goal.loop-source-preserved
loop-source-preserved c = record {
  same = next_mapped source_of c.args.sources.now c.loop-source.all.items c.push.new.self.items c.loop-source.source-index c.source-item.result _ c.loop-source-test.true c.source-item.is c.in_ok-push.ensures.items c.loop-source.invariant.same c.in_ok-copy_source.ensures.same;
  nodes = next_several nodes_of (λ (s : Source). tests_in s.joins.items) c.args.sources.now c.loop-source.all.items c.push.new.self.items c.loop-source.source-index c.source-item.result _ c.loop-source-test.true c.source-item.is c.in_ok-push.ensures.items c.loop-source.invariant.nodes
      c.in_ok-copy_source.ensures.nodes;
  texts = next_several texts_within (λ (s : Source). tests_in s.joins.items) c.args.sources.now c.loop-source.all.items c.push.new.self.items c.loop-source.source-index c.source-item.result _ c.loop-source-test.true c.source-item.is c.in_ok-push.ensures.items c.loop-source.invariant.texts
      c.in_ok-copy_source.ensures.texts;
}
