use Rattle.std.proofs.Common.{◌≡◌, map, take}
use Rattle.qw_scalar.specs.Texts.{texts_within}
use Rattle.qw_scalar.specs.Nodes.{nodes_of}
use Rattle.qw_meaning.specs.Query.{joined_of}
use Rattle.qw_algebra.specs.Sizes.{tests_in}
use Rattle.qw_compile_whole.proofs.front.copy_joins.Given as goal

abbrev pub invariant-loop-join : goal.invariant-loop-join
invariant-loop-join l = record {
  same : map joined_of l.all.items ≡ map joined_of (take l.join-index l.joins);
  nodes : map nodes_of (tests_in l.all.items) ≡ map nodes_of (tests_in (take l.join-index l.joins));
  texts : map texts_within (tests_in l.all.items) ≡ map texts_within (tests_in (take l.join-index l.joins));
}
