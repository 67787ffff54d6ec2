use Rattle.std.proofs.Common.{◌≡◌, map, take}
use Rattle.qw_scalar.specs.Texts.{texts_within}
use Rattle.qw_scalar.specs.Nodes.{nodes_of}
use Rattle.qw_scalar.specs.Tree.{condition_of}
use Rattle.qw_compile_whole.proofs.front.copy_conditions.Given as goal

abbrev pub invariant-loop-condition : goal.invariant-loop-condition
invariant-loop-condition l = record {
  same : map condition_of l.all.items ≡ map condition_of (take l.condition-index l.conditions);
  nodes : map nodes_of l.all.items ≡ map nodes_of (take l.condition-index l.conditions);
  texts : map texts_within l.all.items ≡ map texts_within (take l.condition-index l.conditions);
}
