-- What the passes of a query make: its well placed plan, and its physical pipelines.
use Rattle.std.specs.Prelude.{◌≤◌, ℕ, List, map, sum_by}
use Rattle.std.specs.List.{AllByRecursion, AllZip}
use Rattle.qw_scalar.specs.Nodes.{nodes, nodes_of}
use Rattle.qw_meaning.specs.Query.{QueryParts, query_of}
use Rattle.qw_algebra.specs.Node.{Node}
use Rattle.qw_algebra.specs.Sizes.{query_size}
use Rattle.qw_algebra.specs.Written.{written}
use Rattle.qw_rewrite.specs.Placed.{IsSizedPlan, IsWellPlaced}
use Rattle.qw_pipe.specs.Pipes.{pipelines}
use Rattle.qw_physical.specs.Coded.{pipeline_of}
use Rattle.qw_physical.specs.Follows.{FollowsPipeline}
use Rattle.qw_physical.specs.Sizes.{size, weight_in, weight_within}
use Rattle.qw_physical.specs.Spelled.{IsSamePipeline, all_spelled}
use Rattle.qw_physical.specs.Typed.{IsTypedPhysical}
use Rattle.qw_physical.specs.declared.pipeline.Pipeline.{Pipeline}
use Rattle.qw_physical.specs.declared.pipeline.ReadColumn.{ReadColumn}

-- Pipelines of the code are those of the well placed plan of a query over columns, each expression one that means the same, and no longer
-- than the query.
pub record ArePipelinesOf (parts : QueryParts) (columns : List ReadColumn) (made : List Pipeline) : Type 0 where
  pub node : Node
  pub sized : IsSizedPlan (written (query_of parts))
  pub placed : IsWellPlaced (query_of parts) node
  pub same : AllZip IsSamePipeline (all_spelled columns 0 (pipelines node)) (map pipeline_of made)
  pub follow : AllZip FollowsPipeline (all_spelled columns 0 (pipelines node)) (map pipeline_of made)
  pub typed : AllByRecursion IsTypedPhysical (map pipeline_of made)
  pub short : sum_by (size nodes nodes_of) made ≤ query_size nodes nodes_of parts
  pub light : (weight : List ℕ → ℕ) → sum_by (size (weight_in weight) (weight_within weight)) made ≤ query_size (weight_in weight) (weight_within weight) parts
