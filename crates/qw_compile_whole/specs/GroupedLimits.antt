-- How long what is emitted for a grouped query may be, and which ones are of a size that is always compiled.
use Rattle.std.specs.Prelude.{◌≡◌, ℕ, ◌+◌, ◌*◌, ◌≤◌, List, length, sum_by}
use Rattle.qw_scalar.specs.Nodes.{nodes, nodes_of}
use Rattle.qw_physical.specs.Sizes.{size}
use Rattle.qw_physical.specs.declared.pipeline.Operator.{Operator}
use Rattle.qw_physical.specs.declared.pipeline.Pipeline.{Pipeline}
use Rattle.qw_read.specs.declared.reader.Reader.{Reader}
use Rattle.qw_operator.specs.Span.{sink_span, span}
use Rattle.qw_operator.specs.Grouping.{group_span}
use Rattle.qw_operator.specs.declared.group.Group.{Group}
use Rattle.qw_compile.specs.Limits.{AreShort, keys_built, keys_sought, lookups}
use Rattle.qw_compile.specs.QueryLocals.{readers_over}

-- ---- one pipeline
-- the most steps of the scan of one whose rows go into groups, with the empty table before it, and locals of its own
abbrev pub gathering_span : List Reader → (entry : ℕ) → List Operator → Group → ℕ
gathering_span readers entry operators g = span operators (group_span g) + 143 * length (readers_over entry readers) + 100

-- the most steps and locals of the walk over groups of so many columns and set functions, with what begins and finishes the result
abbrev pub walk_span : (columns functions : ℕ) → Pipeline → ℕ
walk_span columns functions behind = 25 * columns + 328 * functions + span behind.operators.items (sink_span behind.sink) + 100

-- ---- all of them
-- There are so many grouped columns and set functions in all. Each of them is a node in front of GROUP BY, and counts for two more.
pub record AreShortGrouped (ps : List Pipeline) (behind : Pipeline) (columns : ℕ) : Type 0 where
  pub before : AreShort ps
  -- no table is looked up or built behind
  pub alone : keys_sought behind + (keys_built behind + lookups behind) ≡ 0
  pub few_nodes : sum_by (size nodes nodes_of) ps + sum_by keys_built ps + size nodes nodes_of behind + 2 * columns ≤ 4012
