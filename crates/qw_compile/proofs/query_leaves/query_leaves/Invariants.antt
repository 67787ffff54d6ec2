use Rattle.std.proofs.Common.{[], take}
use Rattle.std.specs.List.{flat_map}
use Rattle.qw_leaves.specs.Leaves.{Gathers}
use Rattle.qw_compile.specs.QueryLiterals.{pipeline_leaves}
use Rattle.qw_compile.proofs.query_leaves.query_leaves.Given as goal

abbrev pub invariant-loop-pipeline : goal.invariant-loop-pipeline
invariant-loop-pipeline l = Gathers [] l.leaves.items (flat_map pipeline_leaves (take l.pipeline-index l.pipelines))
