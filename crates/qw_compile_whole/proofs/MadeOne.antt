-- The run of the block that makes the row of the one group of all rows (ISO/IEC 9075:1992, 7.8, 7.9): the result begins behind the areas of the set functions,
-- and has what HAVING and the select list make of their values.
use Rattle.std.proofs.Common.{◌≡◌, ℕ, ◌+◌, ◌*◌, ◌^◌, ◌<◌, ◌≤◌, List, [], ◌∷◌, ◌++◌, length, map, sym, ap, ◌∙◌, subst, arith, Ok, inr}
use Rattle.std.proofs.lemmas.List.{length-map}
use Rattle.std.proofs.lemmas.List.Sorted.{IsPermutation-refl}
use Rattle.std.proofs.lemmas.Nat.{mul-le}
use Rattle.qw_module.specs.declared.instruction.ValType.{ValType}
use Rattle.qw_types.specs.declared.value.Val.{Val}
use Rattle.qw_scalar.specs.Typing.{kind_of}
use Rattle.qw_leaves.proofs.LeafLists.{all_front}
use Rattle.qw_meaning.specs.Flow.{Flow}
use Rattle.qw_grouped.specs.Grouped.{Grouped}
use Rattle.qw_grouped.specs.Groups.{function_values}
use Rattle.qw_grouped.specs.declared.set_function.SetFunctionKind.{SetFunctionKind}
use Rattle.qw_low.specs.Syntax.{Statement, seq}
use Rattle.qw_low.specs.State.{Cells, LowState}
use Rattle.qw_low.specs.Meaning.{meaning}
use Rattle.qw_low.specs.Promise.{Ends}
use Rattle.qw_low.specs.Size.{size}
use Rattle.qw_low.proofs.Promises.{Ends-more}
use Rattle.qw_feed.specs.Cells.{HasRow, kinds_of}
use Rattle.qw_feed.specs.Feeds.{Any, AtMost, FedTo, Sink as FlowSink, Tells, flow_by}
use Rattle.qw_feed.specs.Frames.{pos, Below, Before, From, Keeps}
use Rattle.qw_feed.specs.Room.{Paid}
use Rattle.qw_feed.specs.Rows.{begin_block, rows_sink}
use Rattle.qw_feed.proofs.Frames.{Never}
use Rattle.qw_table.specs.Joins.{sources_of}
use Rattle.qw_table.specs.declared.key.Field.{Field}
use Rattle.qw_group.specs.declared.group.Aggregate.{Aggregate}
use Rattle.qw_group.proofs.EntryAreas.{areas-same}
use Rattle.qw_expr.specs.Computes.{Known}
use Rattle.qw_expr.specs.Cells.{DeclaresValue}
use Rattle.qw_read.specs.Reading.{known_of}
use Rattle.qw_physical.specs.Courses.{cost, fed}
use Rattle.qw_physical.specs.Physical.{Operator, filter, select}
use Rattle.qw_physical.specs.declared.pipeline.ReadColumn.{ReadColumn}
use Rattle.qw_physical.proofs.Orders.{Alike}
use Rattle.qw_operator.specs.Carries.{directory}
use Rattle.qw_operator.proofs.Promised.{AreOwn}
use Rattle.qw_operator.proofs.Seen.{LiesIn, StandsIn}
use Rattle.qw_operator.specs.Grouping.{Group, over_fields}
use Rattle.qw_operator.proofs.Filters.{Runs}
use Rattle.qw_operator.proofs.Stood.{Stood, built_of}
use Rattle.qw_group_pipeline.specs.declared.columns.ValueColumn.{ValueColumn}
use Rattle.qw_group_pipeline.specs.Groups.{InSink, IsOneRow, all_anywhere, most_read}
use Rattle.qw_group_pipeline.proofs.GroupsFeed.{AreTheir}
use Rattle.qw_group_pipeline.proofs.OneRows.{behind_one, one_feeds}
use Rattle.qw_group_pipeline.proofs.RowFeeds.{by_result, sink_rest, FeedsRest}
use Rattle.qw_group_pipeline.proofs.ValuesCome.{functions_of, AreRead}
use Rattle.qw_compile.specs.QueryLocals.{cell_start, own_start, query_readers, rows_end, rows_left}
use Rattle.qw_compile.proofs.PipelineRuns.{Grounds}
use Rattle.qw_compile_whole.proofs.GroupBounded.{walked_of}
use Rattle.qw_compile_whole.proofs.SingleBounded.{GoAlone, OneReach, areas_paid}
use Rattle.qw_compile_whole.proofs.FieldCounts.{areas_long}
use Rattle.qw_compile_whole.proofs.Taken.{AreTaken}
use Rattle.qw_compile_whole.proofs.Walked.{IsWalked, begun_stays, come_few, fewer_come, result_then}
use Rattle.qw_compile_whole.proofs.Widened.{widened}
use Rattle.qw_compile_whole.proofs.SeenBehind.{LocalsStay, StandBetween, sees, stand_later}
use Rattle.qw_compile_whole.proofs.WalkFed.{over_theirs, within_among}

module _ (T n : ℕ) (columns : List ReadColumn) (literals : List Known) (contents : List (List (List Val))) (c : Cells) (base u most fuel N many : ℕ) (types : List ValType) (s0 : LowState) (grounds : Grounds T n columns literals c base u fuel N many types s0)
    (query : Grouped) (group : Group) (values : List ValueColumn) (alone : GoAlone query group values literals) (fields : List Field) (field_kinds : kinds_of (sources_of fields) ≡ map kind_of group.values) (low_table : group.table < T)
    (budget : ℕ) (rows : List (List Val)) (few : 1 ≤ length group.functions → length rows < 10 ^ 18) (stoods : List Stood) (s : LowState) (h : AreTaken T n c base u s0 stoods group fields budget rows s) where
  abbrev aggregates : List Aggregate
  aggregates = over_fields group.functions fields

  abbrev d : ℕ
  d = directory group.table

  abbrev from : ℕ
  from = pos h.part h.offset

  abbrev to : ℕ
  to = pos h.part (h.offset + 32 * length aggregates)

  abbrev front : ℕ
  front = pos h.has.part h.has.offset

  abbrev operators : List Operator
  operators = filter query.having ∷ []

  back : base ≤ front
  back = let behind_areas = h.has.behind in omega (arith, h.behind, behind_areas)

  tables : StandBetween base front stoods
  tables i st there = let old = h.fronts i st there in let behind_areas = h.has.behind in (old.0, omega (arith, old.1, behind_areas))

  theirs : AreTheir aggregates values
  theirs = over_theirs group.functions fields values (sym alone.theirs) (field_kinds ∙ alone.arguments)

  abbrev flow : Flow (List Val)
  flow = flow_by (function_values 0 (functions_of values) rows) (fed (built_of stoods) (filter query.having ∷ []) (select query.items))

  flow_is : flow ≡ walked_of query rows
  flow_is =
      subst (λ (fs : List SetFunctionKind). flow_by (function_values 0 fs rows) (fed (built_of stoods) (filter query.having ∷ []) (select query.items)) ≡ walked_of query rows) (sym (alone.theirs ∙ alone.functions)) (behind_one query rows alone.no_columns)

  -- what takes the row stands in a later state, knows nothing of locals from one on
  module _ (units : List Val → ℕ) (typed : (vs : List Val) → function_values 0 (functions_of values) rows ≡ Ok vs → AreRead values vs) (cost : 1 + (most_read (functions_of values) + by_result (function_values 0 (functions_of values) rows) units) ≤ N)
      (Rest : List Known → (next : ℕ) → Statement → List ValType → Type 0) (one : Statement) (next : ℕ) (own : List ValType) (is : IsOneRow Rest literals (directory group.table) next values one own) (behind : own_start T n (length columns) ≤ next) (room : next + length own ≤ many) (own_types : AreOwn types next own)
      (Old : ℕ → Type 0) (stays : LocalsStay T n stoods Old) (old_d : Old (directory group.table)) (t : LowState) (kept : Keeps Old (Before (pos h.has.part h.has.offset)) s t)
      (sink : FlowSink) (first : ℕ) (low : first ≤ next) (runs : Runs (widened (pos h.part h.offset) (pos h.part (h.offset + 32 * length (over_fields group.functions fields))) s.cells c) stoods first sink)
      (feeds : FeedsRest (widened (pos h.part h.offset) (pos h.part (h.offset + 32 * length (over_fields group.functions fields))) s.cells c) stoods first sink most fuel many types (all_anywhere [] values ++ literals) Rest (λ row. Unit {0}) (fed (built_of stoods) (filter query.having ∷ []) (select query.items)) units)
      (so_far : List (List Val)) (has : sink.Has so_far t) (may : (flow : Flow (List Val)) → Alike flow (walked_of query rows) → sink.May (so_far ++ flow.rows)) where
    pub one_fed : (flow : Flow (List Val)) × Alike flow (walked_of query rows) × Ends (size one * N) (FedTo sink (Below next) Any flow so_far t) Never (Tells flow.codes) (meaning most fuel one t)
    one_fed =
        let fueled = grounds.turns in
        let more : Cells = widened from to s.cells c in
        let spent : ℕ = 1 + (most_read (functions_of values) + by_result (function_values 0 (functions_of values) rows) units) in
        let seen_there = sees T n columns literals contents c base u most fuel N many types s0 grounds s h.keeps from to front h.has.behind back stoods Old stays t kept in
        let alike : Alike flow (walked_of query rows) = subst (λ (f : Flow (List Val)). Alike flow f) flow_is (IsPermutation-refl flow.rows, IsPermutation-refl flow.codes) in
        let done =
        one_feeds more stoods first sink runs most fuel many types Rest (λ row. Unit {0}) (fed (built_of stoods) operators (select query.items)) units
        literals d next values one own is low (omega (arith, behind, low_table)) room (within_among (rows_end T) (cell_start T n (length columns)) next literals (omega arith) (omega (arith, behind)) grounds.within)
        (all_front (λ (k : Known). DeclaresValue types k.operand) literals (map known_of (query_readers T n columns)) grounds.declared) own_types feeds alone.kinds alone.numbered
        (StandsIn c s) aggregates theirs h.part h.offset rows t seen_there.also (kept.locals d old_d ∙ h.has.at)
        (areas-same (StandsIn c s) 0 aggregates rows s.cells t.cells h.part h.offset (λ a b two low' high. kept.cells h.part a b (let behind_areas = h.has.behind in omega (arith, high, behind_areas))) h.has.areas)
        (λ at wide two low' high. seen_there.there h.part at wide two (omega (arith, low')) (omega (arith, high))) seen_there.less seen_there.long
        (stand_later T n columns literals contents c base u most fuel N many types s0 grounds s h.keeps from to front h.has.behind back stoods Old stays t kept tables h.stand) (λ vs is'. tt)
        (λ some'. few (let count = ap (λ (l : List SetFunctionKind). length l) alone.theirs in let mapped = length-map values (λ (v : ValueColumn). v.function) in omega (arith, some', count, mapped)))
        seen_there.held grounds.fit typed (omega (arith, cost, fueled)) in (
          flow,
          alike,
          Ends-more (FedTo sink (Below next) Any flow so_far t) Never (Tells flow.codes) (size one * spent) (size one * N) (meaning most fuel one t) (mul-le (size one) spent (size one) N (omega arith) cost) (done so_far has (may flow alike)),
        )

  -- ---- into the result
  module _ (few_tables : length stoods ≤ T) (r : OneReach query values u most N rows (areas_paid group budget)) (one : Statement) (next : ℕ) (own : List ValType) (is : IsOneRow (InSink (filter query.having ∷ []) (select query.items)) literals (directory group.table) next values one own)
      (behind : own_start T n (length columns) ≤ next) (room : next + length own ≤ many) (own_types : AreOwn types next own) where
    abbrev paid_for : ℕ
    paid_for = areas_paid group budget

    paid : Paid u paid_for h.has.offset s.held
    paid = subst (λ (m : ℕ). Paid u (budget + 32 * m) h.has.offset s.held) (areas_long group fields alone.can alone.none field_kinds) h.has.paid

    -- then what follows is done
    pub one_then : (Told : ℕ → Type 0) → ((raised : ℕ) → Tells (walked_of query rows).codes raised → Told raised) → (m : ℕ) (P : LowState → Type 0) (finish : Statement) →
        ((w : LowState) → IsWalked T n c base u s0 query paid_for rows w → Ends m P Never Told (meaning most fuel finish w)) →
        Ends (6 + (size one * N + m)) P Never Told (meaning most fuel (seq begin_block (seq one finish)) s)
    one_then Told told m P finish onward =
        let total : ℕ = length (walked_of query rows).rows in
        let more : Cells = widened from to s.cells c in
        let into : FlowSink = rows_sink (HasRow (LiesIn more) (map kind_of query.items)) (8 + 16 * length query.items) front u paid_for (AtMost total) (fewer_come total) in
        result_then T n columns literals contents c base u most fuel N many types s0 grounds query rows paid_for s h.keeps h.has.part h.has.offset h.has.room paid from to h.behind h.has.behind back stoods few_tables tables r.fits r.enough one next behind Told told
        (λ takes sunk t kept has.
        one_fed (cost (built_of stoods) operators (select query.items)) r.typed r.cost (InSink operators (select query.items)) one next own is behind room own_types (From 5) (begun_stays T n stoods) (inr (omega arith)) t kept into (rows_left T) (omega (arith, behind)) takes
        (sink_rest more stoods (rows_left T) into takes most fuel many types (all_anywhere [] values ++ literals) operators tt tt (λ row. tt) (select query.items) sunk alone.takes)
        [] has (come_few query rows))
        m P finish onward
