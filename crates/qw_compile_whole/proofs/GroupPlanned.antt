-- The pipelines of what reaches a query's groups: the last one feeds the rows of its plan, whatever is raised, and those that build tables hold no more than the
-- plan's tables.
use Rattle.std.proofs.Common.{◌≡◌, ◌∙◌, ◌≤◌, ℕ, ◌+◌, ◌*◌, true, List, [], ◌∷◌, ◌++◌, length, refl, sym, ap, subst, arith}
use Rattle.std.specs.List.{AllByRecursion, AllZip}
use Rattle.std.specs.List.Sorted.{IsPermutation}
use Rattle.std.specs.declared.cmp.Ordering.TheVariants as ordering
use Rattle.qw_types.specs.ValueOrder.{is_same_row, value_order}
use Rattle.qw_types.specs.declared.value.Val.{Val}
use Rattle.qw_meaning.specs.Flow.{Flow}
use Rattle.qw_meaning.specs.Outcome.{flow}
use Rattle.qw_meaning.specs.Query.{query_of}
use Rattle.qw_meaning.specs.Select.{AreOfEntries, Specification, entries_of}
use Rattle.qw_algebra.specs.Node.{Node, node_flow}
use Rattle.qw_rewrite.proofs.Grounds.{flow_of_query}
use Rattle.qw_pipe.specs.Octets.{table_count, table_octets}
use Rattle.qw_pipe.specs.Pipes.{pipelines, split}
use Rattle.qw_map.specs.Layout.{Layout, row_size}
use Rattle.qw_physical.specs.Courses.{AreBuilt, costs}
use Rattle.qw_physical.specs.Held.{held, kept_of, sink_size}
use Rattle.qw_physical.specs.Physical.{Pipeline}
use Rattle.qw_physical.specs.Sides.{IsPlanned, builds_of, last_of}
use Rattle.qw_physical.specs.Spelled.{IsSamePipeline, all_spelled}
use Rattle.qw_physical.specs.Typed.{IsTypedPhysical}
use Rattle.qw_physical.proofs.Alikeness.{pipeline_fed_same}
use Rattle.qw_physical.proofs.Holding.{builds_held}
use Rattle.qw_physical.proofs.Orders.{Alike}
use Rattle.qw_physical.proofs.QueryScans.{ScansOne}
use Rattle.qw_physical.proofs.Results.{last_alike}
use Rattle.qw_leaves.proofs.LeafLists.{all_back, all_front}
use Rattle.qw_operator.proofs.Stood.{Stood, built_of}
use Rattle.qw_compile.specs.PlannedQueries.{greatest, kept_by, placed, planned_units}
use Rattle.qw_compile.proofs.KeptBounds.{stored_few}
use Rattle.qw_compile.proofs.PipelineRuns.{AreStood, fed_over}
use Rattle.qw_compile.proofs.PromiseKept as promised
use Rattle.qw_compile.proofs.PromiseKept.{halves}
use Rattle.qw_compile.proofs.QueryBounded.{held_same}
use Rattle.qw_compile.proofs.QueryTold.{spelled_built}
use Rattle.qw_compile.proofs.StoodBuilt.{built_alike}
use Rattle.qw_whole.specs.WholePromises.{planned_rows}
use Rattle.qw_compile_whole.proofs.FrontLed.{FrontOf, cut}

module _ (row_is : (row other : List Val) → is_same_row row other ≡ true → row ≡ other) (value_is : (a : Val) → value_order a a ≡ ordering.Equal)
    {texts : List (List ℕ)} {layout : Layout} (source : FrontOf texts layout) where
  abbrev query : Specification
  query = query_of source.parts

  -- a table for each join
  pub built_many : length source.building ≡ table_count (placed (query_of source.parts))
  built_many = promised.built_many row_is value_is source.parts source.kept source.columns source.ps source.are source.of (cut source)

  pub typed_builds : AllByRecursion IsTypedPhysical source.building
  typed_builds = all_front IsTypedPhysical source.building (source.last ∷ []) (subst (AllByRecursion IsTypedPhysical) source.whole source.of.typed)

  pub scans_whole : AllByRecursion (ScansOne (entries_of (query_of source.parts).sources)) (source.building ++ source.last ∷ [])
  scans_whole = promised.scans_whole row_is value_is source.parts source.kept source.columns source.ps source.are source.of (cut source)

  pub last_scans : ScansOne (entries_of (query_of source.parts).sources) source.last
  last_scans = (all_back (ScansOne (entries_of query.sources)) source.building (source.last ∷ []) scans_whole).0

  -- an entry is no greater than a result row would be, or the greatest of the plan's tables
  pub builds_size : AllByRecursion (λ (p : Pipeline). sink_size p.sink ≤ greatest (query_of source.parts)) source.building
  builds_size =
      all_front (λ (p : Pipeline). sink_size p.sink ≤ greatest (query_of source.parts)) source.building (source.last ∷ []) (promised.sizes_whole row_is value_is source.parts source.kept source.columns source.ps source.are source.of (cut source))

  -- ---- over tables
  module _ (tables : List (List (List Val))) (loaded : AreOfEntries (entries_of (query_of source.parts).sources) tables) where
    pub plan : IsPlanned (query_of source.parts) tables source.kept source.of.node
    plan = promised.plan row_is value_is source.parts source.kept source.columns source.ps source.are source.of (cut source) tables loaded

    pub cost_within : (front back : List Pipeline) (more : List (List (List Val))) → all_spelled source.kept 0 (pipelines source.of.node) ≡ front ++ back → AreBuilt tables [] front more → costs tables [] (front ++ back) more ≤ planned_units (query_of source.parts) tables
    cost_within front back more is built = promised.cost_within row_is value_is source.parts source.kept source.columns source.ps source.are source.of (cut source) tables loaded front back more is built

    -- tables of joins hold no more than those of the plan
    pub builds_within : (front back : List Pipeline) (more : List (List (List Val))) → source.building ≡ front ++ back → AreBuilt tables [] front more
        → held tables [] (front ++ back) more ≤ table_octets (kept_by (query_of source.parts)) tables (placed (query_of source.parts))
    builds_within front back more is built =
        let half = halves IsSamePipeline (builds_of source.kept source.of.node) front back (subst (AllZip IsSamePipeline (builds_of source.kept source.of.node)) is (cut source).same) in
        let spelled : AreBuilt tables [] half.before more = built_alike IsSamePipeline tables (λ p q z b. pipeline_fed_same b tables p q z) [] half.before front more half.same_before built in
        let spelled_is : all_spelled source.kept 0 (split 0 (placed query)).builds ≡ half.before ++ half.after = ap (λ (n : Node). all_spelled source.kept 0 (split 0 n).builds) (sym source.of.placed) ∙ half.is in
        cancelled (held tables [] (half.before ++ half.after) more) (held tables [] (front ++ back) more) (table_octets (kept_of source.kept) tables (placed query)) (table_octets (kept_by query) tables (placed query))
        (length (node_flow tables (placed query)).rows * row_size (length query.items))
        (builds_held row_is value_is source.kept tables query half.before half.after more source.are.specification loaded source.of.sized source.are.reads plan.scaled spelled_is spelled)
        (held_same tables [] (half.before ++ half.after) (front ++ back) more half.same) (stored_few source.parts source.kept source.are.kept_once source.are.named tables)
      where
        cancelled : (h g a b r : ℕ) → h ≤ a → h ≡ g → a + r ≤ b + r → g ≤ b
        cancelled h g a b r less same few = omega (arith, less, same, few)

    -- the last one feeds the rows that reach the groups, and raises what is raised before
    pub fed_alike : (stoods : List Stood) → AreStood tables [] source.building stoods → Alike (fed_over tables stoods source.last) (flow (query_of source.parts) tables)
    fed_alike stoods stood =
        let built = spelled_built query tables source.kept source.of.node plan source.building source.last (cut source).same (cut source).same_last (builds_of source.kept source.of.node) source.building stoods (cut source).same stood in
        subst (λ (f : Flow (List Val)). Alike f (flow query tables)) (pipeline_fed_same (built_of stoods) tables (last_of source.kept source.of.node) source.last (cut source).same_last) (last_alike query tables source.kept source.of.node plan (built_of stoods) built)

    pub rows_planned : (stoods : List Stood) → AreStood tables [] source.building stoods → IsPermutation (fed_over tables stoods source.last).rows (planned_rows (query_of source.parts) tables)
    rows_planned stoods stood =
        subst (λ (f : Flow (List Val)). IsPermutation (fed_over tables stoods source.last).rows f.rows) (sym (flow_of_query query tables (placed query) source.are.specification loaded source.of.sized refl)) (fed_alike stoods stood).0
