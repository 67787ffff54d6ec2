use Rattle.qw_scalar.specs.Texts.{texts_within}
use Rattle.qw_scalar.specs.Nodes.{nodes_of}
use Rattle.qw_meaning.specs.Query.{joined_of}
use Rattle.qw_meaning.specs.declared.query.Joined.{Joined}
use Rattle.qw_compile_whole.proofs.FrontCopies.{next_mapped, next_several}
use Rattle.qw_compile_whole.proofs.front.copy_joins.Goals as goal

pub loop-join-preserved : goal.loop-join-preserved
loop-join-preserved c = record {
  same = next_mapped joined_of c.args.joins.now c.loop-join.all.items c.push.new.self.items c.loop-join.join-index c.join-item.result _ c.loop-join-test.true c.join-item.is c.in_ok-push.ensures.items c.loop-join.invariant.same c.in_ok-copy_join.ensures.same;
  nodes = next_several nodes_of (λ (j : Joined). j.on.items) c.args.joins.now c.loop-join.all.items c.push.new.self.items c.loop-join.join-index c.join-item.result _ c.loop-join-test.true c.join-item.is c.in_ok-push.ensures.items c.loop-join.invariant.nodes c.in_ok-copy_join.ensures.nodes;
  texts = next_several texts_within (λ (j : Joined). j.on.items) c.args.joins.now c.loop-join.all.items c.push.new.self.items c.loop-join.join-index c.join-item.result _ c.loop-join-test.true c.join-item.is c.in_ok-push.ensures.items c.loop-join.invariant.texts
      c.in_ok-copy_join.ensures.texts;
}
