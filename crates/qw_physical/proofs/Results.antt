-- What the pipelines of a query come to, of all that is planned of it.
use Rattle.std.proofs.Common.{◌≡◌, ◌∙◌, ◌≤◌, ℕ, ◌+◌, zero, suc, true, List, [], ◌∷◌, ◌++◌, length, map, take, Option, Some, None, slice_get, refl, sym, ap, subst, arith}
use Rattle.std.specs.List.{AllByRecursion, AllZip, Contains}
use Rattle.std.specs.List.Sorted.{IsPermutation}
use Rattle.std.proofs.ByRecursion.{all_shuffled}
use Rattle.std.proofs.lemmas.List.Sorted.{length_permutation}
use Rattle.qw_types.specs.declared.code.Code.{Code}
use Rattle.qw_types.specs.declared.schema.ColumnType.{ColumnType}
use Rattle.qw_types.specs.declared.value.Val.{Val}
use Rattle.qw_meaning.specs.Outcome.{IsSameOutcome, Raises, Rows, flow, outcome}
use Rattle.qw_meaning.specs.Select.{Entry, Specification, entries_in_rows, entries_of}
use Rattle.qw_algebra.specs.Node.{Node, node_flow}
use Rattle.qw_rewrite.specs.Sift.{sifted}
use Rattle.qw_rewrite.proofs.Grounds.{flow_of_query, written_sized}
use Rattle.qw_pipe.specs.Pipes.{pipelines, split}
use Rattle.qw_physical.specs.Physical.{Pipeline}
use Rattle.qw_physical.specs.Courses.{AreBuilt, pipeline_fed}
use Rattle.qw_physical.specs.Sides.{column_in, FeedsSide, IsApart, IsMadeFor, IsPlanned, ScansNulls, builds_of, last_of, sides}
use Rattle.qw_physical.specs.Spelled.{all_spelled, spelled}
use Rattle.qw_physical.specs.declared.pipeline.ReadColumn.{ReadColumn}
use Rattle.qw_physical.proofs.Apart.{builds_apart, builds_nulls, last_apart, last_nulls}
use Rattle.qw_physical.proofs.Building.{FeedSides, HasSide, element_at, feed_sides, side_codes, side_of}
use Rattle.qw_physical.proofs.Declared.{AllScans, ScanDeclared, keyed_scans, sifted_scans, written_declared}
use Rattle.qw_physical.proofs.Feeding.{pipelines_append}
use Rattle.qw_physical.proofs.Orders.{Alike}
use Rattle.qw_physical.proofs.QueryNulls.{NullAt, OuterRights, rights}
use Rattle.qw_physical.proofs.Outcomes.{below, from, last_codes, last_fed, last_is, raises_flow, ready_below, same_outcome}

-- builds, and then the last one
pub in_order : (columns : List ReadColumn) (node : Node) → all_spelled columns 0 (pipelines node) ≡ builds_of columns node ++ last_of columns node ∷ []
in_order columns node =
    let none : 0 + length (split 0 node).builds ≡ length (split 0 node).builds = omega arith in
    pipelines_append columns 0 (split 0 node).builds ((split 0 node).last ∷ [])
    ∙ ap (λ (n : ℕ). builds_of columns node ++ spelled columns n (split 0 node).last ∷ []) none

module _ (query : Specification) (tables : List (List (List Val))) (columns : List ReadColumn) (node : Node) (planned : IsPlanned query tables columns node) where
  pub rows_are : (more : List (List (List Val))) (rows : List (List Val)) → AreBuilt tables [] (builds_of columns node) more → (pipeline_fed tables more (last_of columns node)).codes ≡ []
      → IsPermutation (pipeline_fed tables more (last_of columns node)).rows rows → IsSameOutcome (outcome query tables) (Rows rows)
  rows_are more rows =
      same_outcome query tables columns planned.specification planned.loaded planned.sized planned.read planned.scaled node (length (split 0 node).builds) more rows planned.placed

  -- ---- exceptions

  raised : (code : Code) → Contains (flow query tables).codes code → (outcome query tables ≡ Raises (flow query tables).codes) × Contains (flow query tables).codes code
  raised code h = (raises_flow query tables columns planned.specification planned.loaded planned.sized planned.read planned.scaled code h, h)

  pub last_raises : (more : List (List (List Val))) → AreBuilt tables [] (builds_of columns node) more → (code : Code) → Contains (pipeline_fed tables more (last_of columns node)).codes code
      → (outcome query tables ≡ Raises (flow query tables).codes) × Contains (flow query tables).codes code
  last_raises more built code h =
      raised code (last_codes query tables columns planned.specification planned.loaded planned.sized planned.read planned.scaled node (length (split 0 node).builds) more planned.placed built code h)

  plan_flow : node_flow tables node ≡ flow query tables
  plan_flow = flow_of_query query tables node planned.specification planned.loaded (written_sized query planned.specification planned.sized) planned.placed

  -- the last pipeline feeds the rows of the plan and raises its exceptions, in another order
  pub last_alike : (more : List (List (List Val))) → AreBuilt tables [] (builds_of columns node) more → Alike (pipeline_fed tables more (last_of columns node)) (flow query tables)
  last_alike more built = last_fed query tables columns planned.specification planned.loaded planned.sized planned.read planned.scaled node (length (split 0 node).builds) more planned.placed built

  -- ---- sides

  all_feed : FeedSides tables [] (builds_of columns node) (sides node)
  all_feed =
      let plan : Node = below query tables columns planned.specification planned.loaded planned.sized planned.read planned.scaled in
      let start : Node = from query tables columns planned.specification planned.loaded planned.sized planned.read planned.scaled in
      let known : List Entry = entries_in_rows query.sources in
      let scans : AllScans (ScanDeclared known tables) plan =
      keyed_scans (ScanDeclared known tables) (sifted true [] start) true
      (sifted_scans (ScanDeclared known tables) start true [] (written_declared tables query.sources planned.specification.some_source planned.loaded)) in
      let nulls : OuterRights (NullAt known) plan = subst (OuterRights (NullAt known)) planned.placed (rights query tables columns node planned) in
      subst (λ (n : Node). FeedSides tables [] (builds_of columns n) (sides n)) (sym planned.placed)
      (feed_sides (entries_of query.sources) tables columns planned.sized known planned.there plan 0 [] refl
      (ready_below query tables columns planned.specification planned.loaded planned.sized planned.read planned.scaled) scans nulls)

  pub side_is : (before : List Pipeline) (p : Pipeline) (after : List Pipeline) (more : List (List (List Val))) → builds_of columns node ≡ before ++ p ∷ after → AreBuilt tables [] before more
      → (side : Node) × ((slice_get (sides node) (length before) ≡ Some side) × FeedsSide tables more p side)
  side_is before p after more e built =
      let found : HasSide tables [] more before p (sides node) =
      side_of tables before p after (sides node) [] more (subst (λ (ps : List Pipeline). FeedSides tables [] ps (sides node)) e all_feed) built in
      (found.side, (found.stands, found.feeds))

  pub build_raises : (before : List Pipeline) (p : Pipeline) (after : List Pipeline) (more : List (List (List Val))) → builds_of columns node ≡ before ++ p ∷ after → AreBuilt tables [] before more
      → (code : Code) → Contains (pipeline_fed tables more p).codes code → (outcome query tables ≡ Raises (flow query tables).codes) × Contains (flow query tables).codes code
  build_raises before p after more e built code h =
      let found = side_is before p after more e built in
      raised code (subst (λ f. Contains f.codes code) plan_flow
      (element_at (λ side. Contains (node_flow tables side).codes code → Contains (node_flow tables node).codes code) (sides node) (length before) found.0 (side_codes tables code node) found.1.0 (found.1.1.codes code h)))

  pub last_count : (more : List (List (List Val))) → AreBuilt tables [] (builds_of columns node) more → length (pipeline_fed tables more (last_of columns node)).rows ≡ length (node_flow tables node).rows
  last_count more built =
      sym (length_permutation (pipeline_fed tables more (last_of columns node)).rows (flow query tables).rows
      (last_fed query tables columns planned.specification planned.loaded planned.sized planned.read planned.scaled node (length (split 0 node).builds) more planned.placed built).0)
      ∙ ap (λ f. length f.rows) (sym plan_flow)

  -- ---- lookups

  pub all_apart : AllByRecursion IsApart (builds_of columns node) × IsApart (last_of columns node)
  all_apart =
      let plan : Node = below query tables columns planned.specification planned.loaded planned.sized planned.read planned.scaled in
      let good = ready_below query tables columns planned.specification planned.loaded planned.sized planned.read planned.scaled in
      subst (λ (n : Node). AllByRecursion IsApart (builds_of columns n) × IsApart (last_of columns n)) (sym planned.placed) (
        builds_apart (entries_of query.sources) tables columns planned.sized plan 0 good,
        subst IsApart (sym (last_is query tables columns planned.specification planned.loaded planned.sized planned.read planned.scaled (length (split 0 plan).builds)))
            (last_apart (entries_of query.sources) tables columns planned.sized plan 0 good),
      )

  pub all_null : AllByRecursion (ScansNulls tables) (builds_of columns node) × ScansNulls tables (last_of columns node)
  all_null =
      let plan : Node = below query tables columns planned.specification planned.loaded planned.sized planned.read planned.scaled in
      let good = ready_below query tables columns planned.specification planned.loaded planned.sized planned.read planned.scaled in
      subst (λ (n : Node). AllByRecursion (ScansNulls tables) (builds_of columns n) × ScansNulls tables (last_of columns n)) (sym planned.placed) (
        builds_nulls (entries_of query.sources) tables columns planned.sized plan 0 good,
        subst (ScansNulls tables) (sym (last_is query tables columns planned.specification planned.loaded planned.sized planned.read planned.scaled (length (split 0 plan).builds)))
            (last_nulls (entries_of query.sources) tables columns planned.sized plan 0 good),
      )

-- ---- tables that were built of sides

module _ (tables : List (List (List Val))) where
  -- their entries are made for their sinks, in whatever order they stand
  pub stored : (before after : List Pipeline) (ss : List Node) (start more : List (List (List Val))) → FeedSides tables start (before ++ after) ss → AreBuilt tables start before more
      → AllZip (λ (p : Pipeline) (entries : List (List Val)). AllByRecursion (IsMadeFor p.sink) entries) before more
  stored [] after ss start [] h built = tt
  stored [] after ss start (e ∷ more) h built = absurd built
  stored (p ∷ before) after [] start more h built = absurd h
  stored (p ∷ before) after (s ∷ ss) start [] h built = absurd built
  stored (p ∷ before) after (s ∷ ss) start (e ∷ more) h built = (
    all_shuffled (IsMadeFor p.sink) (pipeline_fed tables start p).rows e built.1 h.0.entries,
    stored before after ss (start ++ e ∷ []) more (h.1 e built.0 built.1) built.2,
  )

  -- and there are at most as many as their sides have rows
  pub counted : (before after : List Pipeline) (ss : List Node) (start more : List (List (List Val))) → FeedSides tables start (before ++ after) ss → AreBuilt tables start before more
      → AllZip (λ (entries : List (List Val)) (side : Node). length entries ≤ length (node_flow tables side).rows) more (take (length before) ss)
  counted [] after ss start [] h built = tt
  counted [] after ss start (e ∷ more) h built = absurd built
  counted (p ∷ before) after [] start more h built = absurd h
  counted (p ∷ before) after (s ∷ ss) start [] h built = absurd built
  counted (p ∷ before) after (s ∷ ss) start (e ∷ more) h built = (
    subst (λ (n : ℕ). n ≤ length (node_flow tables s).rows) (sym (length_permutation (pipeline_fed tables start p).rows e built.1)) h.0.few,
    counted before after ss (start ++ e ∷ []) more (h.1 e built.0 built.1) built.2,
  )

pub entries_stored : (query : Specification) (tables : List (List (List Val))) (columns : List ReadColumn) (node : Node) → IsPlanned query tables columns node
    → (before after : List Pipeline) (more : List (List (List Val))) → builds_of columns node ≡ before ++ after → AreBuilt tables [] before more
    → AllZip (λ (p : Pipeline) (entries : List (List Val)). AllByRecursion (IsMadeFor p.sink) entries) before more
entries_stored query tables columns node planned before after more e built =
    stored tables before after (sides node) [] more (subst (λ (ps : List Pipeline). FeedSides tables [] ps (sides node)) e (all_feed query tables columns node planned)) built

pub entries_counted : (query : Specification) (tables : List (List (List Val))) (columns : List ReadColumn) (node : Node) → IsPlanned query tables columns node
    → (before after : List Pipeline) (more : List (List (List Val))) → builds_of columns node ≡ before ++ after → AreBuilt tables [] before more
    → AllZip (λ (entries : List (List Val)) (side : Node). length entries ≤ length (node_flow tables side).rows) more (take (length before) (sides node))
entries_counted query tables columns node planned before after more e built =
    counted tables before after (sides node) [] more (subst (λ (ps : List Pipeline). FeedSides tables [] ps (sides node)) e (all_feed query tables columns node planned)) built

-- ---- columns of entries, as others tell them

-- by the lists of the entries' columns
pub column_by_lists : (at : Option (List ColumnType) → ℕ → Option ColumnType) → ((j : ℕ) → at None j ≡ None) → ((list : List ColumnType) (j : ℕ) → at (Some list) j ≡ slice_get list j)
    → (entries : List Entry) (k j : ℕ) → column_in (slice_get entries k) j ≡ at (slice_get (map (λ (e : Entry). e.columns) entries) k) j
column_by_lists at none some [] k j = sym (none j)
column_by_lists at none some (e ∷ entries) zero j = sym (some e.columns j)
column_by_lists at none some (e ∷ entries) (suc k) j = column_by_lists at none some entries k j
