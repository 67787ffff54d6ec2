-- Queries, grouped or not, with DISTINCT or without, of a size that is always compiled.
use Rattle.std.specs.Prelude.{Bool}
use Rattle.qw_grouped.specs.declared.whole.Body.{Body}
use Rattle.qw_grouped.specs.declared.whole.Body.TheVariants.{Plain, Grouped}
use Rattle.qw_grouped.specs.declared.whole.WholeQuery.{WholeQuery}
use Rattle.qw_compile_whole.specs.DistinctLimits.{IsShortPlain}
use Rattle.qw_compile_whole.specs.GroupedDistinctLimits.{IsShortGroups}

abbrev pub IsShortAsked : Body → (distinct : Bool) → Type 0
IsShortAsked (Plain parts) distinct = IsShortPlain distinct parts
IsShortAsked (Grouped parts) distinct = IsShortGroups distinct parts

abbrev pub IsShortWhole : WholeQuery → Type 0
IsShortWhole query = IsShortAsked query.body query.distinct
