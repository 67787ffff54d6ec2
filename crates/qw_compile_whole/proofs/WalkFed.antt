-- What the walk over a table of groups feeds (ISO/IEC 9075:1992, 7.7 to 7.9), whatever stands behind that table and takes its rows: those that HAVING and the
-- select list make of the groups, in some order. Tables of joins may stand before it.
use Rattle.std.proofs.Common.{◌≡◌, ℕ, ◌+◌, ◌*◌, ◌^◌, ◌<◌, ◌≤◌, drop, Ok, Some, None, Option, List, [], ◌∷◌, ◌++◌, length, map, slice_get, sum_by, refl, sym, ap, ◌∙◌, subst, arith}
use Rattle.std.proofs.lemmas.List.{length-map}
use Rattle.std.proofs.lemmas.List.Sorted.{sum_by-IsPermutation}
use Rattle.std.proofs.lemmas.List.Sums.{sum_by-cons}
use Rattle.std.proofs.lemmas.Nat.{mul-le}
use Rattle.std.proofs.lemmas.Option.{same_Some}
use Rattle.std.specs.List.{AllByRecursion}
use Rattle.std.specs.List.Sorted.{IsPermutation}
use Rattle.qw_module.specs.declared.instruction.ValType.{ValType}
use Rattle.qw_types.specs.declared.kind.Kind.{Kind}
use Rattle.qw_types.specs.declared.value.Val.{Val}
use Rattle.qw_scalar.specs.Typing.{kind_of}
use Rattle.qw_leaves.proofs.LeafLists.{all_front}
use Rattle.qw_meaning.specs.Flow.{Flow}
use Rattle.qw_grouped.specs.Grouped.{Grouped}
use Rattle.qw_grouped.specs.Groups.{function_values, keys, members}
use Rattle.qw_grouped.specs.declared.set_function.SetFunctionKind.{SetFunctionKind}
use Rattle.qw_low.specs.Syntax.{Statement}
use Rattle.qw_low.specs.State.{Cells, LowState}
use Rattle.qw_low.specs.Meaning.{meaning}
use Rattle.qw_low.specs.Promise.{Ends}
use Rattle.qw_low.specs.Size.{size}
use Rattle.qw_low.proofs.Promises.{Ends-more}
use Rattle.qw_feed.specs.Cells.{Uses, UsesNull, kinds_of}
use Rattle.qw_feed.specs.Feeds.{Any, FedTo, Tells, spend, Sink as FlowSink}
use Rattle.qw_feed.specs.Frames.{pos, Before, Below, Keeps}
use Rattle.qw_feed.specs.Rows.{Row}
use Rattle.qw_feed.specs.Stages.{Among}
use Rattle.qw_feed.proofs.Frames.{Never}
use Rattle.qw_table.specs.Joins.{sources_of}
use Rattle.qw_table.specs.Tables.{values_of}
use Rattle.qw_table.specs.declared.key.Field.{Field}
use Rattle.qw_group.specs.Groups.{HasGroup, group_size}
use Rattle.qw_group.specs.declared.group.Aggregate.{Aggregate}
use Rattle.qw_group.proofs.WalkRuns.{StandGroups}
use Rattle.qw_expr.specs.Computes.{Known}
use Rattle.qw_expr.specs.Cells.{DeclaresValue}
use Rattle.qw_read.specs.Reading.{known_of}
use Rattle.qw_physical.specs.Courses.{fed}
use Rattle.qw_physical.specs.Physical.{filter, select, Operator}
use Rattle.qw_physical.specs.declared.pipeline.ReadColumn.{ReadColumn}
use Rattle.qw_physical.proofs.Orders.{Alike}
use Rattle.qw_operator.specs.Carries.{directory}
use Rattle.qw_operator.proofs.PairRows.{AreStored}
use Rattle.qw_operator.proofs.PipelineFeeds.{Between as Inside}
use Rattle.qw_operator.proofs.Promised.{AreOwn}
use Rattle.qw_operator.proofs.Seen.{AreWithin, StandsIn}
use Rattle.qw_operator.proofs.Stood.{spend_values, AllStand, Stood, built_of}
use Rattle.qw_operator.specs.Grouping.{Group, aggregates_of, key_fields, over_fields}
use Rattle.qw_operator.proofs.FieldParts.{kinds_dropped}
use Rattle.qw_operator.proofs.Filters.{Runs}
use Rattle.qw_group_pipeline.specs.Groups.{most_read, IsGroupPipelineTo, all_anywhere}
use Rattle.qw_group_pipeline.specs.declared.columns.ValueColumn.{ValueColumn}
use Rattle.qw_group_pipeline.proofs.GroupsFeed.{AreTheir, IsGoodTo, units_within}
use Rattle.qw_group_pipeline.proofs.RowFeeds.{by_result, FeedsRest}
use Rattle.qw_group_pipeline.proofs.ValuesCome.{AreRead, functions_of}
use Rattle.qw_group_pipeline.proofs.WholeGroups.{all_come, query_feeds}
use Rattle.qw_compile.specs.QueryLocals.{cell_start, own_start, query_readers, rows_end}
use Rattle.qw_compile.proofs.PipelineRuns.{Grounds, Steady}
use Rattle.qw_compile_whole.proofs.Gathered.{key_long}
use Rattle.qw_compile_whole.proofs.GroupBounded.{GoTogether, walked_of}
use Rattle.qw_compile_whole.proofs.Widened.{widened}
use Rattle.qw_compile_whole.proofs.SeenBehind.{LocalsStay, StandBetween, groups_keep, sees, stand_later}

-- ---- units of several, in any order
spend_sum : (u : List Val → ℕ) (xs : List (List Val)) → spend u xs ≡ sum_by (λ (x : List Val). 1 + u x) xs
spend_sum u [] = refl
spend_sum u (x ∷ xs) = ap (λ (n : ℕ). 1 + u x + n) (spend_sum u xs) ∙ sym (sum_by-cons (λ (y : List Val). 1 + u y) x xs)

pub spend_permuted : (u : List Val → ℕ) (xs ys : List (List Val)) → IsPermutation xs ys → spend u ys ≡ spend u xs
spend_permuted u xs ys h = spend_sum u ys ∙ (sum_by-IsPermutation (λ (x : List Val). 1 + u x) xs ys h ∙ sym (spend_sum u xs))

pub many_keys : (u : List Val → ℕ) (xs : List (List Val)) → length xs ≤ spend u xs
many_keys u [] = omega arith
many_keys u (x ∷ xs) = let rest = many_keys u xs in omega (arith, rest)

-- ---- the locals of literals are among those before a block's own
null_among : (n m : ℕ) (null : Option ℕ) → UsesNull (Inside n m) null → (next : ℕ) → 5 ≤ n → m ≤ next → UsesNull (Among next) null
null_among n m None uses next low high = tt
null_among n m (Some x) uses next low high = (omega (arith, uses.0, low), omega (arith, uses.1, high))

pub within_among : (n m next : ℕ) (known : List Known) → 5 ≤ n → m ≤ next → AllByRecursion (λ (k : Known). Uses (Inside n m) k.operand.cell) known → AreWithin next known
within_among n m next [] low high uses = tt
within_among n m next (k ∷ known) low high uses = (
  (
    (omega (arith, uses.0.0.0, low), omega (arith, uses.0.0.1, high)),
    (omega (arith, uses.0.1.0, low), omega (arith, uses.0.1.1, high)),
    null_among n m k.operand.cell.null uses.0.2 next low high,
  ),
  within_among n m next known low high uses.1,
)

-- ---- the set functions of a table are those of the columns that are read from it
pub over_theirs : (functions : List SetFunctionKind) (fields : List Field) (values : List ValueColumn) → functions ≡ functions_of values → kinds_of (sources_of fields) ≡ map (λ (v : ValueColumn). Some v.argument) values → AreTheir (over_fields functions fields) values
over_theirs [] fields [] same kinds = tt
over_theirs [] fields (v ∷ values) same kinds = absurd cc
over_theirs (f ∷ functions) fields [] same kinds = absurd cc
over_theirs (f ∷ functions) [] (v ∷ values) same kinds = absurd cc
over_theirs (f ∷ functions) (x ∷ fields) (v ∷ values) same kinds = (
  same_Some f v.function (ap (λ (l : List SetFunctionKind). slice_get l 0) same),
  same_Some x.kind v.argument (same_Some (Some x.kind) (Some v.argument) (ap (λ (l : List (Option Kind)). slice_get l 0) kinds)),
  over_theirs functions fields values (ap (λ (l : List SetFunctionKind). drop 1 l) same) (ap (λ (l : List (Option Kind)). drop 1 l) kinds),
)

-- ---- keys and values are good
pub goods : (key : List ReadColumn) (values : List ValueColumn) (units : List Val → ℕ) (fuel columns : ℕ) (rows ks : List (List Val)) →
    1 + spend (λ (k : List Val). most_read (functions_of values) + by_result (function_values (length key) (functions_of values) (members columns k rows)) (λ vs. units (k ++ vs))) ks ≤ fuel → AllByRecursion (AreStored key) ks →
    AllByRecursion (λ (k : List Val). (vs : List Val) → function_values (length key) (functions_of values) (members columns k rows) ≡ Ok vs → AreRead values vs) ks → AllByRecursion (IsGoodTo key values units fuel columns rows) ks
goods key values units fuel columns rows [] le stored typed = tt
goods key values units fuel columns rows (k ∷ ks) le stored typed = (record { stored = stored.0; typed = typed.0; enough = omega (arith, le) }, goods key values units fuel columns rows ks (omega (arith, le)) stored.1 typed.1)

-- ---- the walk
module _ (T n : ℕ) (columns : List ReadColumn) (literals : List Known) (contents : List (List (List Val))) (c : Cells) (base u most fuel N many : ℕ) (types : List ValType) (s0 : LowState) (grounds : Grounds T n columns literals c base u fuel N many types s0)
    (query : Grouped) (group : Group) (key : List ReadColumn) (values : List ValueColumn) (together : GoTogether query group key values literals) (fields : List Field) (field_kinds : kinds_of (sources_of fields) ≡ map kind_of group.values) (low_table : group.table < T)
    (rows : List (List Val)) (few : 1 ≤ length group.functions → length rows < 10 ^ 18) (s : LowState) (keeps : Keeps (Steady T n) (Before base) s0 s) (part offset front : ℕ) (from_behind : base ≤ pos part offset)
    (groups : StandGroups (length (key_fields group fields)) (HasGroup (StandsIn c s) (key_fields group fields) (aggregates_of group fields)) (group_size (key_fields group fields) (aggregates_of group fields)) part offset (directory group.table) front rows s)
    (here : ℕ) (to_before : front ≤ here) (stoods : List Stood) (fronts : StandBetween base here stoods) (stand : AllStand c stoods s) (units : List Val → ℕ) (stored : AllByRecursion (λ (k : List Val). AreStored key k) (keys group.columns rows))
    (typed : AllByRecursion (λ (k : List Val). (vs : List Val) → function_values (length key) (functions_of values) (members group.columns k rows) ≡ Ok vs → AreRead values vs) (keys group.columns rows))
    (cost : 1025 + spend (λ (k : List Val). units_within key values (fed (built_of stoods) (filter query.having ∷ []) (select query.items)) units group.columns rows k) (keys group.columns rows) ≤ N) where
  abbrev places : List Field
  places = key_fields group fields

  abbrev aggregates : List Aggregate
  aggregates = aggregates_of group fields

  abbrev d : ℕ
  d = directory group.table

  abbrev from : ℕ
  from = pos part offset

  abbrev operators : List Operator
  operators = filter query.having ∷ []

  abbrev units_at : (columns : ℕ) → List Val → ℕ
  units_at m k = units_within key values (fed (built_of stoods) operators (select query.items)) units m rows k

  places_long : length places ≡ group.columns
  places_long = key_long group fields together.can field_kinds

  table_long : from + 4096 ≤ front
  table_long = let directory_before = groups.directory.behind in omega (arith, directory_before)

  behind_all : base ≤ here
  behind_all = omega (arith, table_long, to_before, from_behind)

  turns : 1024 < fuel
  turns = let fueled = grounds.turns in omega (arith, cost, fueled)

  all_good : AllByRecursion (IsGoodTo key values units fuel (length places) rows) (keys (length places) rows)
  all_good =
      let fueled = grounds.turns in
      subst (λ (m : ℕ). AllByRecursion (IsGoodTo key values units fuel m rows) (keys m rows)) (sym places_long) (goods key values units fuel group.columns rows (keys group.columns rows) (omega (arith, cost, fueled)) stored typed)

  theirs : AreTheir aggregates values
  theirs = over_theirs group.functions (drop group.columns fields) values (sym together.theirs) (kinds_dropped group.columns fields ∙ (ap (λ (ks : List (Option Kind)). drop group.columns ks) field_kinds ∙ together.arguments))

  -- what takes the rows stands in a later state, behind all of it; it knows nothing of locals from one on, and spares the table
  module _ (Rest : List Known → (next : ℕ) → Statement → List ValType → Type 0) (walk : Statement) (next : ℕ) (own : List ValType) (is : IsGroupPipelineTo Rest literals (directory group.table) next key values walk own) (behind : own_start T n (length columns) ≤ next) (room : next + length own ≤ many) (own_types : AreOwn types next own)
      (Old : ℕ → Type 0) (stays : LocalsStay T n stoods Old) (old_d : Old (directory group.table)) (t : LowState) (kept : Keeps Old (Before here) s t)
      (sink : FlowSink) (first : ℕ) (low : first ≤ next) (runs : Runs (widened (pos part offset) front s.cells c) stoods first sink) (spared : (at width : ℕ) → pos part offset ≤ at → at + width ≤ front → sink.Spared at width)
      (feeds : FeedsRest (widened (pos part offset) front s.cells c) stoods first sink most fuel many types (all_anywhere key values ++ literals) Rest (λ row. Unit {0}) (fed (built_of stoods) (filter query.having ∷ []) (select query.items)) units)
      (so_far : List (List Val)) (has : sink.Has so_far t) (may : (flow : Flow (List Val)) → Alike flow (walked_of query rows) → sink.May (so_far ++ flow.rows)) where
    pub walk_fed : (flow : Flow (List Val)) × Alike flow (walked_of query rows) × Ends (size walk * N) (FedTo sink (Below next) Any flow so_far t) Never (Tells flow.codes) (meaning most fuel walk t)
    walk_fed =
        let together_many = together.many in
        let together_some = together.some in
        let key_many = together.key_many in
        let fueled = grounds.turns in
        let more : Cells = widened from front s.cells c in
        let seen_there = sees T n columns literals contents c base u most fuel N many types s0 grounds s keeps from front here to_before behind_all stoods Old stays t kept in
        let done =
        query_feeds more stoods first sink runs most fuel many types turns Rest units query literals d next key values walk own is low room (within_among (rows_end T) (cell_start T n (length columns)) next literals (omega arith) (omega (arith, behind)) grounds.within)
        (all_front (λ (x : Known). DeclaresValue types x.operand) literals (map known_of (query_readers T n columns)) grounds.declared) own_types feeds
        together.kinds together.sized (omega arith, omega (arith, behind, low_table)) together.numbered together.numbered_values (omega (arith, key_many, together_some)) (key_many ∙ together_many) (together.theirs ∙ together.functions)
        (StandsIn c s) places aggregates theirs (places_long ∙ sym key_many) part offset front rows t seen_there.also
        (groups_keep (StandsIn c s) places aggregates part offset d front rows Old (Before here) s t old_d (λ at width low high. omega (arith, high, to_before)) table_long kept groups)
        (stand_later T n columns literals contents c base u most fuel N many types s0 grounds s keeps from front here to_before behind_all stoods Old stays t kept fronts stand)
        spared seen_there.there seen_there.less seen_there.long
        (λ some'. few (let count = ap (λ (l : List SetFunctionKind). length l) together.theirs in let mapped = length-map values (λ (v : ValueColumn). v.function) in omega (arith, some', count, mapped)))
        (subst (λ (m : ℕ). length (keys m rows) < fuel) (sym places_long) (let count = many_keys (units_at group.columns) (keys group.columns rows) in omega (arith, count, cost, fueled)))
        seen_there.held grounds.fit all_good in
        let flow : Flow (List Val) = all_come query (length key) (length places) (functions_of values) rows done.0 in
        let taken : ℕ = 1025 + spend (λ (e : Row). units_at (length places) e.values) done.0 in
        let taken_is : spend (λ (e : Row). units_at (length places) e.values) done.0 ≡ spend (units_at group.columns) (keys group.columns rows) =
        sym {a = spend (units_at (length places)) (values_of done.0)} {b = spend (λ (e : Row). units_at (length places) e.values) done.0} (spend_values (units_at (length places)) done.0)
        ∙ (sym (spend_permuted (units_at (length places)) (values_of done.0) (keys (length places) rows) done.1) ∙ ap (λ (m : ℕ). spend (units_at m) (keys m rows)) places_long) in (
          flow,
          done.2,
          Ends-more (FedTo sink (Below next) Any flow so_far t) Never (Tells flow.codes) (size walk * taken) (size walk * N) (meaning most fuel walk t) (mul-le (size walk) taken (size walk) N (omega arith) (omega (arith, cost, taken_is))) (done.3 so_far has (may flow done.2)),
        )
