-- The units of a plan's pipelines, over tables of keys and kept columns in any order, are within the units of the plan.
use Rattle.std.proofs.Common.{◌≡◌, ◌∙◌, ℕ, ◌+◌, ◌≤◌, Bool, true, false, List, [], ◌∷◌, ◌++◌, get_or, length, map, refl, sym, ap, ap₂, subst, arith, append-nil, append_assoc, length-append}
use Rattle.std.specs.List.{flat_map}
use Rattle.std.specs.declared.cmp.Ordering.TheVariants as ordering
use Rattle.std.proofs.lemmas.List.{length-map}
use Rattle.qw_types.specs.Contents.{rows_of}
use Rattle.qw_types.specs.ValueOrder.{is_same_row, value_order}
use Rattle.qw_types.specs.declared.value.Val.{Val}
use Rattle.qw_scalar.specs.Conjuncts.{passes}
use Rattle.qw_scalar.specs.Evaluation.{at_row}
use Rattle.qw_scalar.specs.Expression.{Condition}
use Rattle.qw_scalar.specs.Units.{units_of_all}
use Rattle.qw_meaning.specs.Flow.{kept, rows_given}
use Rattle.qw_meaning.specs.From.{at_places, entry_flow}
use Rattle.qw_algebra.specs.Columns.{condition_names_only}
use Rattle.qw_algebra.specs.Node.{Node, scan, filter, join, project, node_flow}
use Rattle.qw_algebra.proofs.Lists.{all_more}
use Rattle.qw_pipe.specs.General.{general_hashing}
use Rattle.qw_pipe.specs.Pipes as pipes
use Rattle.qw_pipe.specs.Pipes.{make, probe, split, test}
use Rattle.qw_pipe.specs.Units.{table_units, tested_units, units_of}
use Rattle.qw_pipe.proofs.Splitting.{building, lookup, table_built}
use Rattle.qw_rewrite.specs.Probed.{beside_keys}
use Rattle.qw_feed.specs.Feeds.{flow_over}
use Rattle.qw_physical.specs.Courses.{AreBuilt, cost, costs, fed, pipeline_cost, pipeline_fed, where_passed}
use Rattle.qw_physical.specs.Physical as physical
use Rattle.qw_physical.specs.Physical.{Operator, Pipeline, Sink}
use Rattle.qw_physical.specs.Reads.{is_read}
use Rattle.qw_physical.specs.Spelled.{all_spelled, kept_columns, keys_sought, spelled, spelled_steps}
use Rattle.qw_physical.specs.declared.pipeline.ReadColumn.{ReadColumn}
use Rattle.qw_physical.proofs.Charges.{Respects, charge, charges, charges_more, cost_less, cost_respects, count, fed_less, fed_respects, filter_charge, filter_respects, passed_rows, probe_charge, probe_respects, sink_cost, sink_fed}
use Rattle.qw_physical.proofs.Grounded.{IsGround, IsKeyedJoin}
use Rattle.qw_physical.proofs.JoinBound.{AreAll, AreLeft, IsKnown, kept_total, names_beside, names_kept, names_sought, probes_bound, probing, sought_units, table_bound, total_count}
use Rattle.qw_physical.proofs.Scanned.{IsScanned}
use Rattle.qw_physical.proofs.Totals.{spend_is, sum_is, total, total_flat, total_less, total_ones, total_permuted, total_plus, total_same}
use Rattle.qw_physical.proofs.Feeding.{AreCut, built_count, cut, pipelines_append, spelled_count}

-- ---- pipelines one behind another

pub spelled_more : (columns : List ReadColumn) (steps : List pipes.Step) (s : pipes.Step) → spelled_steps columns (steps ++ s ∷ []) ≡ spelled_steps columns steps ++ spelled_steps columns (s ∷ [])
spelled_more columns [] s = refl
spelled_more columns (test conjuncts ∷ steps) s = ap (λ (os : List Operator). physical.filter conjuncts ∷ os) (spelled_more columns steps s)
spelled_more columns (probe table look ∷ steps) s =
    ap (λ (os : List Operator). physical.probe (record { table = table; outer = look.outer; key = keys_sought look; kept = kept_columns columns look; on = beside_keys look.keys 0 look.on }) ∷ os) (spelled_more columns steps s)
spelled_more columns (make items ∷ steps) s = spelled_more columns steps s

-- ---- plans

filter_true : (c s u tested k below : ℕ) → c + s ≤ u + below → below ≡ tested + k → c + s ≤ (u + tested) + k
filter_true c s u tested k below h e = omega (arith, h, e)

filter_step : (counted : Bool) (c s u tested k below : ℕ) → count counted c + s ≤ count counted u + below → below ≡ count counted tested + k → count counted c + s ≤ count counted (u + tested) + k
filter_step true c s u tested k below h e = filter_true c s u tested k below h e
filter_step false c s u tested k below h e = omega (arith, h, e)

join_true : (whole cf pc cb s t ur sr ul tl w j tu : ℕ) → whole ≡ cf + pc + cb → pc ≤ t → cf + t ≤ ur + sr → cb + s ≤ ul + tl → tl ≤ w + j → sr + w ≤ tu → whole + s ≤ (ul + ur + tu) + j
join_true whole cf pc cb s t ur sr ul tl w j tu e a b c d f = omega (arith, e, a, b, c, d, f)

join_step : (counted : Bool) (whole cf pc cb s t ur sr ul tl w j tu : ℕ) → whole ≡ cf + pc + cb → pc ≤ t → cf + t ≤ ur + sr → count counted cb + s ≤ count counted ul + tl → tl ≤ count counted w + j → sr + w ≤ tu
    → count counted whole + s ≤ count counted (ul + ur + tu) + j
join_step true whole cf pc cb s t ur sr ul tl w j tu e a b c d f = join_true whole cf pc cb s t ur sr ul tl w j tu e a b c d f
join_step false whole cf pc cb s t ur sr ul tl w j tu e a b c d f = omega (arith, c, d)

scan_step : (counted : Bool) (n s k : ℕ) → s ≡ count counted n + k → count counted 0 + s ≤ count counted n + k
scan_step true n s k e = omega (arith, e)
scan_step false n s k e = omega (arith, e)

module _ (same_rows : (row other : List Val) → is_same_row row other ≡ true → row ≡ other) (same_value : (a : Val) → value_order a a ≡ ordering.Equal)
    (columns : List ReadColumn) (tables : List (List (List Val))) where
  abbrev read : ℕ → Bool
  read = is_read columns

  abbrev scanned : pipes.Pipeline → List (List Val)
  scanned p = (entry_flow tables p.entry p.table).rows

  abbrev steps_of : (next : ℕ) → Node → List Operator
  steps_of next node = spelled_steps columns (split next node).last.steps

  abbrev builds_of : (next : ℕ) → Node → List Pipeline
  builds_of next node = all_spelled columns next (split next node).builds

  -- over all tables that pipelines of the plan build and look up, with what each row that it comes to costs after it
  abbrev Bound : (counted : Bool) (node : Node) (next : ℕ) (built more full : List (List (List Val))) → (List Val → ℕ) → Type 0
  Bound counted node next built more full after =
      count counted (costs tables built (builds_of next node) more) + total (λ row. count counted 1 + charges counted full (steps_of next node) after row) (scanned (split next node).last)
      ≤ count counted (units_of general_hashing tables node) + total after (node_flow tables node).rows

  filter_total : (counted : Bool) (after : List Val → ℕ) (conjuncts : List Condition) (rows : List (List Val))
      → total (filter_charge counted after conjuncts) rows ≡ count counted (tested_units conjuncts rows) + total after (flat_map (λ row. rows_given (kept conjuncts row)) rows)
  filter_total counted after conjuncts rows =
      total_plus (λ row. count counted (units_of_all conjuncts (at_row row))) (λ row. where_passed (passes conjuncts (at_row row)) (after row)) rows
      ∙ ap₂ (λ a b. a + b)
      (total_count counted (λ row. units_of_all conjuncts (at_row row)) rows ∙ ap (count counted) (sym (sum_is (λ (row : List Val). units_of_all conjuncts (at_row row)) rows)))
      (total_same (λ row. where_passed (passes conjuncts (at_row row)) (after row)) (λ row. total after (rows_given (kept conjuncts row))) rows (λ row. sym (kept_total after conjuncts row))
      ∙ sym (total_flat after (λ row. rows_given (kept conjuncts row)) rows))

  scan_total : (counted : Bool) (after : List Val → ℕ) (entry : ℕ) (rows : List (List Val))
      → total (λ row. count counted 1 + after row) (map (at_places entry) rows) ≡ count counted (length rows) + total after (map (at_places entry) rows)
  scan_total counted after entry rows =
      total_plus (λ (row : List Val). count counted 1) after (map (at_places entry) rows)
      ∙ ap (λ n. n + total after (map (at_places entry) rows))
      (total_count counted (λ (row : List Val). 1) (map (at_places entry) rows) ∙ ap (count counted) (total_ones (map (at_places entry) rows) ∙ length-map rows (at_places entry)))

  -- of a pipeline that builds, what it takes and what it feeds
  pub build_cost : (built : List (List (List Val))) (p : Pipeline) → pipeline_cost tables built p ≤ total (λ row. 1 + charges true built p.operators (sink_cost p.sink) row) (entry_flow tables p.entry p.table).rows
  build_cost built p =
      let rows : List (List Val) = (entry_flow tables p.entry p.table).rows in
      let spent = spend_is (cost built p.operators p.sink) rows in
      let less = total_less (λ row. 1 + cost built p.operators p.sink row) (λ row. 1 + charges true built p.operators (sink_cost p.sink) row) rows
      (λ row. let one = cost_less built p.operators p.sink row in omega (arith, one)) in
      omega (arith, spent, less)

  pub build_fed : (built : List (List (List Val))) (p : Pipeline) (g : List Val → ℕ)
      → total g (pipeline_fed tables built p).rows ≤ total (λ row. 0 + charges false built p.operators (λ r. total g (sink_fed p.sink r).rows) row) (entry_flow tables p.entry p.table).rows
  build_fed built p g =
      let rows : List (List Val) = (entry_flow tables p.entry p.table).rows in
      let flat = total_flat g (λ row. (fed built p.operators p.sink row).rows) rows in
      let less = total_less (λ row. total g (fed built p.operators p.sink row).rows) (λ row. 0 + charges false built p.operators (λ r. total g (sink_fed p.sink r).rows) row) rows
      (λ row. let one = fed_less built g p.operators p.sink row in omega (arith, one)) in
      omega (arith, flat, less)

  -- what the rows of a scan that come through its filters leave, operators behind them
  scanned_fed : (node : Node) → IsScanned node → (next : ℕ) (built : List (List (List Val))) (sink : Sink) (g : List Val → ℕ) (back : List Operator)
      → total g (flow_over (fed built (steps_of next node ++ back) sink) (scanned (split next node).last)).rows ≡ total (λ row. total g (fed built back sink row).rows) (node_flow tables node).rows
  scanned_fed (scan entry table) h next built sink g back = total_flat g (λ row. (fed built back sink row).rows) (entry_flow tables entry table).rows
  scanned_fed (filter conjuncts below) h next built sink g back =
      let after : List Val → ℕ = λ row. total g (fed built back sink row).rows in
      ap (λ (os : List Operator). total g (flow_over (fed built os sink) (scanned (split next below).last)).rows)
      (ap (λ (os : List Operator). os ++ back) (spelled_more columns (split next below).last.steps (test conjuncts)) ∙ append_assoc (steps_of next below) (physical.filter conjuncts ∷ []) back)
      ∙ scanned_fed below h next built sink g (physical.filter conjuncts ∷ back)
      ∙ total_same (λ row. total g (fed built (physical.filter conjuncts ∷ back) sink row).rows) (λ row. total after (rows_given (kept conjuncts row))) (node_flow tables below).rows
      (λ row. passed_rows built g (passes conjuncts (at_row row)) (fed built back sink row) ∙ sym (kept_total after conjuncts row))
      ∙ sym (total_flat after (λ row. rows_given (kept conjuncts row)) (node_flow tables below).rows)
  scanned_fed (join outer left right on keys) h next built sink g back = absurd h
  scanned_fed (project below items) h next built sink g back = absurd h

  module _ (counted : Bool) where
    filter_bound : (conjuncts : List Condition) (below : Node) (next : ℕ) (built more full : List (List (List Val))) (after : List Val → ℕ)
        → Bound counted below next built more full (filter_charge counted after conjuncts) → Bound counted (filter conjuncts below) next built more full after
    filter_bound conjuncts below next built more full after h =
        let steps : charges counted full (steps_of next (filter conjuncts below)) after ≡ charges counted full (steps_of next below) (filter_charge counted after conjuncts) =
        ap (λ (os : List Operator). charges counted full os after) (spelled_more columns (split next below).last.steps (test conjuncts))
        ∙ charges_more counted full (steps_of next below) (physical.filter conjuncts) after in
        filter_step counted (costs tables built (builds_of next below) more) (total (λ row. count counted 1 + charges counted full (steps_of next (filter conjuncts below)) after row) (scanned (split next below).last))
        (units_of general_hashing tables below) (tested_units conjuncts (node_flow tables below).rows) (total after (node_flow tables (filter conjuncts below)).rows)
        (total (filter_charge counted after conjuncts) (node_flow tables below).rows)
        (subst (λ (c : List Val → ℕ). count counted (costs tables built (builds_of next below) more) + total (λ row. count counted 1 + c row) (scanned (split next below).last)
        ≤ count counted (units_of general_hashing tables below) + total (filter_charge counted after conjuncts) (node_flow tables below).rows) (sym steps) h)
        (filter_total counted after conjuncts (node_flow tables below).rows)

  -- a join, by what is known of its sides
  module _ (outer : Bool) (left right : Node) (on : List Condition) (keys : List ℕ) (ground : IsKeyedJoin tables (IsKnown columns) outer left right on keys) (next : ℕ) (built more full tail : List (List (List Val)))
      (long : length built ≡ next) (whole : full ≡ (built ++ more) ++ tail) where
    abbrev m : ℕ
    m = next + length (split next right).builds

    abbrev y : Pipeline
    y = spelled columns m (building tables outer next right on keys)

    module _ (h : AreCut tables built (builds_of next right) y (builds_of (m + 1) left) more) where
      abbrev before : List (List (List Val))
      before = built ++ h.before

      abbrev after_it : List (List (List Val))
      after_it = before ++ h.entries ∷ []

      before_long : length before ≡ m
      before_long =
          length-append built h.before
          ∙ ap₂ (λ a b. a + b) long (built_count tables built (builds_of next right) h.before h.first ∙ spelled_count columns next (split next right).builds)

      after_long : length after_it ≡ m + 1
      after_long = length-append before (h.entries ∷ []) ∙ ap (λ n. n + 1) before_long

      whole_after : full ≡ (after_it ++ h.behind) ++ tail
      whole_after =
          whole ∙ ap (λ (ms : List (List (List Val))). (built ++ ms) ++ tail) (sym h.whole)
          ∙ ap (λ (bs : List (List (List Val))). bs ++ tail) (sym (append_assoc built h.before (h.entries ∷ h.behind)) ∙ sym (append_assoc before (h.entries ∷ []) h.behind))

      there : get_or full m [] ≡ h.entries
      there = table_built tables before h.entries (h.behind ++ tail) m full (whole_after ∙ append_assoc after_it h.behind tail) before_long

      -- what the rows of the right side leave, and all of it where that is a scan
      all_by : outer ≡ true → AreAll same_rows same_value columns tables m outer left right on keys ground h.entries
      all_by is_outer g =
          let permuted = total_permuted g (pipeline_fed tables before y).rows h.entries h.permuted in
          let exact : total g (pipeline_fed tables before y).rows ≡ total (λ r. total g (sink_fed y.sink r).rows) (node_flow tables right).rows =
          ap (λ (os : List Operator). total g (flow_over (fed before os y.sink) (scanned (split next right).last)).rows) (sym (append-nil (steps_of next right)))
          ∙ scanned_fed right (ground.scanned is_outer) next before y.sink g [] in
          omega (arith, permuted, exact)

      left_by : ((g : List Val → ℕ) → Bound false right next built h.before before (λ r. total g (sink_fed y.sink r).rows)) → AreLeft same_rows same_value columns tables m outer left right on keys ground h.entries
      left_by fed_bound g =
          let permuted = total_permuted g (pipeline_fed tables before y).rows h.entries h.permuted in
          let fed_less = build_fed before y g in
          let within = fed_bound g in
          omega (arith, permuted, fed_less, within)

      join_bound : (counted : Bool) (after : List Val → ℕ) → Respects read after
          → ((g : List Val → ℕ) → Bound false right next built h.before before (λ r. total g (sink_fed y.sink r).rows)) → Bound true right next built h.before before (sink_cost y.sink)
          → Bound counted left (m + 1) after_it h.behind full (probe_charge counted after (probing same_rows same_value columns tables m outer left right on keys ground) h.entries)
          → count counted (costs tables built (builds_of next right ++ y ∷ builds_of (m + 1) left) more)
          + total (λ row. count counted 1 + charges counted full (steps_of next (join outer left right on keys)) after row) (scanned (split (m + 1) left).last)
          ≤ count counted (units_of general_hashing tables (join outer left right on keys)) + total after (node_flow tables (join outer left right on keys)).rows
      join_bound counted after respects fed_bound right_bound left_bound =
          let p = probing same_rows same_value columns tables m outer left right on keys ground in
          let K : List Val → ℕ = probe_charge counted after p h.entries in
          let charged : charge counted full (physical.probe p) after ≡ K = ap (probe_charge counted after p) there in
          let steps : charges counted full (steps_of next (join outer left right on keys)) after ≡ charges counted full (steps_of (m + 1) left) K =
          ap (λ (os : List Operator). charges counted full os after) (spelled_more columns (split (m + 1) left).last.steps (probe m (lookup tables outer right on keys)))
          ∙ charges_more counted full (steps_of (m + 1) left) (physical.probe p) after ∙ ap (charges counted full (steps_of (m + 1) left)) charged in
          let probes = probes_bound same_rows same_value columns tables m outer left right on keys ground h.entries (left_by fed_bound) all_by counted after respects in
          let table = table_bound same_rows same_value columns tables m outer left right on keys ground in
          join_step counted (costs tables built (builds_of next right ++ y ∷ builds_of (m + 1) left) more) (costs tables built (builds_of next right) h.before) (pipeline_cost tables before y)
          (costs tables after_it (builds_of (m + 1) left) h.behind)
          (total (λ row. count counted 1 + charges counted full (steps_of next (join outer left right on keys)) after row) (scanned (split (m + 1) left).last))
          (total (λ row. 1 + charges true before (steps_of next right) (sink_cost y.sink) row) (scanned (split next right).last))
          (units_of general_hashing tables right) (total (sink_cost y.sink) (node_flow tables right).rows) (units_of general_hashing tables left) (total K (node_flow tables left).rows)
          (sought_units same_rows same_value columns tables m outer left right on keys ground h.entries (left_by fed_bound) all_by counted after respects)
          (total after (node_flow tables (join outer left right on keys)).rows)
          (table_units general_hashing (lookup tables outer right on keys) (node_flow tables left).rows (node_flow tables right).rows)
          h.cost (build_cost before y) right_bound
          (subst (λ (c : List Val → ℕ). count counted (costs tables after_it (builds_of (m + 1) left) h.behind) + total (λ row. count counted 1 + c row) (scanned (split (m + 1) left).last)
          ≤ count counted (units_of general_hashing tables left) + total K (node_flow tables left).rows) (sym steps) left_bound)
          probes table

  -- ---- all plans without a select list

  pub joined_builds : (next : ℕ) (outer : Bool) (left right : Node) (on : List Condition) (keys : List ℕ)
      → builds_of next (join outer left right on keys)
      ≡ builds_of next right ++ spelled columns (next + length (split next right).builds) (building tables outer next right on keys) ∷ builds_of (next + length (split next right).builds + 1) left
  joined_builds next outer left right on keys = pipelines_append columns next (split next right).builds (building tables outer next right on keys ∷ (split (next + length (split next right).builds + 1) left).builds)

  pub bounds : (node : Node) (counted : Bool) (next : ℕ) (built more full tail : List (List (List Val))) (after : List Val → ℕ) → IsGround tables (IsKnown columns) node → length built ≡ next
      → full ≡ (built ++ more) ++ tail → Respects read after → AreBuilt tables built (builds_of next node) more → Bound counted node next built more full after
  bounds (scan entry table) counted next built [] full tail after g long whole respects h =
      scan_step counted (length (rows_of tables table)) (total (λ row. count counted 1 + after row) (map (at_places entry) (rows_of tables table))) (total after (map (at_places entry) (rows_of tables table)))
      (scan_total counted after entry (rows_of tables table))
  bounds (scan entry table) counted next built (e ∷ more) full tail after g long whole respects h = absurd h
  bounds (filter conjuncts below) counted next built more full tail after g long whole respects h =
      filter_bound counted conjuncts below next built more full after
      (bounds below counted next built more full tail (filter_charge counted after conjuncts) g.1 long whole
      (filter_respects read counted after conjuncts (all_more (IsKnown columns) (λ c. condition_names_only read c ≡ true) conjuncts (λ c k. k.0) g.0) respects) h)
  bounds (join outer left right on keys) counted next built more full tail after g long whole respects h =
      let m : ℕ = next + length (split next right).builds in
      let y : Pipeline = spelled columns m (building tables outer next right on keys) in
      let s = cut tables (builds_of next right) y (builds_of (m + 1) left) built more (subst (λ (ps : List Pipeline). AreBuilt tables built ps more) (joined_builds next outer left right on keys) h) in
      let before : List (List (List Val)) = built ++ s.before in
      let own : before ≡ (built ++ s.before) ++ [] = sym (append-nil (built ++ s.before)) in
      let fed_bound : (f : List Val → ℕ) → Bound false right next built s.before before (λ r. total f (sink_fed y.sink r).rows) =
      λ f. bounds right false next built s.before before [] (λ r. total f (sink_fed y.sink r).rows) g.1.1 long own
      (fed_respects read f y.sink (names_kept same_rows same_value columns tables m outer left right on keys g.0)) s.first in
      let right_bound : Bound true right next built s.before before (sink_cost y.sink) =
      bounds right true next built s.before before [] (sink_cost y.sink) g.1.1 long own (cost_respects read y.sink (names_kept same_rows same_value columns tables m outer left right on keys g.0)) s.first in
      let p = probing same_rows same_value columns tables m outer left right on keys g.0 in
      let left_bound = bounds left counted (m + 1) (before ++ s.entries ∷ []) s.behind full tail (probe_charge counted after p s.entries) g.1.0
      (after_long outer left right on keys g.0 next built more full tail long whole s) (whole_after outer left right on keys g.0 next built more full tail long whole s)
      (probe_respects read counted after p s.entries (names_sought same_rows same_value columns tables m outer left right on keys g.0) (names_beside same_rows same_value columns tables m outer left right on keys g.0) respects)
      s.rest in
      subst (λ (ps : List Pipeline). count counted (costs tables built ps more) + total (λ row. count counted 1 + charges counted full (steps_of next (join outer left right on keys)) after row) (scanned (split (m + 1) left).last)
      ≤ count counted (units_of general_hashing tables (join outer left right on keys)) + total after (node_flow tables (join outer left right on keys)).rows) (sym (joined_builds next outer left right on keys))
      (join_bound outer left right on keys g.0 next built more full tail long whole s counted after respects fed_bound right_bound left_bound)
  bounds (project below items) counted next built more full tail after g long whole respects h = absurd g
