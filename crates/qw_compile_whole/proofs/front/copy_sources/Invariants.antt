use Rattle.std.proofs.Common.{◌≡◌, map, take}
use Rattle.qw_scalar.specs.Texts.{texts_within}
use Rattle.qw_scalar.specs.Nodes.{nodes_of}
use Rattle.qw_meaning.specs.Query.{source_of}
use Rattle.qw_algebra.specs.Sizes.{tests_on}
use Rattle.qw_compile_whole.proofs.front.copy_sources.Given as goal

abbrev pub invariant-loop-source : goal.invariant-loop-source
invariant-loop-source l = record {
  same : map source_of l.all.items ≡ map source_of (take l.source-index l.sources);
  nodes : map nodes_of (tests_on l.all.items) ≡ map nodes_of (tests_on (take l.source-index l.sources));
  texts : map texts_within (tests_on l.all.items) ≡ map texts_within (tests_on (take l.source-index l.sources));
}
