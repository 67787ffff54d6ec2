-- How long what is emitted for a grouped query with DISTINCT may be, and which ones are of a size that is always compiled.
use Rattle.std.specs.Prelude.{ℕ, ◌+◌, ◌*◌, ◌≤◌, Bool, true, false, List, length}
use Rattle.std.specs.List.{concat}
use Rattle.qw_scalar.specs.Nodes.{nodes, nodes_of}
use Rattle.qw_grouped.specs.Query.{GroupedParts}
use Rattle.qw_physical.specs.declared.pipeline.Operator.{Operator}
use Rattle.qw_operator.specs.Span.{span}
use Rattle.qw_operator.specs.Grouping.{group_span}
use Rattle.qw_operator.specs.declared.group.Group.{Group}
use Rattle.qw_compile_whole.specs.WholeLimits.{IsShortGrouped, behind_size, front_size}
use Rattle.qw_compile_whole.specs.WholeTexts.{texts_of_grouped}

-- the most steps of the walk over groups of so many columns and set functions whose rows go into a second table, with that one's empty directory before it, and
-- locals of its own
abbrev pub enter_span : (columns functions : ℕ) → List Operator → Group → ℕ
enter_span columns functions operators into = 25 * columns + 328 * functions + span operators (group_span into) + 100

-- As a grouped query without DISTINCT, but each item of the select list, which is a column of the second table, counts two nodes more, as a column of GROUP BY
-- does.
pub record IsShortGroupedDistinct (parts : GroupedParts) : Type 0 where
  pub few_nodes : front_size nodes nodes_of parts + behind_size nodes nodes_of parts + 3 * length parts.columns + 2 * length parts.functions + 2 * length parts.items ≤ 4012
  pub few_octets : length (concat (texts_of_grouped parts)) ≤ 16384

-- a grouped query, with DISTINCT or without
abbrev pub IsShortGroups : (distinct : Bool) → GroupedParts → Type 0
IsShortGroups false parts = IsShortGrouped parts
IsShortGroups true parts = IsShortGroupedDistinct parts
