-- The whole: over a table that has the groups of the rows behind the front of a grouped query, the walk feeds whatever takes its rows those that GROUP BY, HAVING
-- and the select list make of them (ISO/IEC 9075:1992, 7.7 to 7.9), in another order, or raises one of their exceptions. Other tables may stand.
use Rattle.std.proofs.Common.{◌≡◌, ℕ, ◌+◌, ◌<◌, ◌≤◌, ◌^◌, List, [], ◌∷◌, ◌++◌, length, map, sym, subst, arith}
use Rattle.std.specs.List.{AllByRecursion}
use Rattle.qw_types.specs.declared.value.Val.{Val}
use Rattle.qw_meaning.specs.Flow.{Flow}
use Rattle.qw_grouped.specs.Grouped.{Grouped, kinds_of}
use Rattle.qw_grouped.specs.Groups.{behind_front, function_values, keys, members}
use Rattle.qw_grouped.specs.declared.set_function.SetFunctionKind.{SetFunctionKind}
use Rattle.qw_module.specs.declared.instruction.ValType.{ValType}
use Rattle.qw_low.specs.Syntax.{Statement}
use Rattle.qw_low.specs.State.{Part, Own, Cells, LowState}
use Rattle.qw_low.proofs.LessKnown.{IsLess, seen}
use Rattle.qw_expr.specs.Computes.{Known, AreHeld, AreDeclared}
use Rattle.qw_feed.specs.Feeds.{Any, Sink as FlowSink, FeedsTo, flow_by, flow_over, spend}
use Rattle.qw_feed.specs.Frames.{pos, Below}
use Rattle.qw_feed.specs.Rows.{Row}
use Rattle.qw_table.specs.declared.key.Field.{Field}
use Rattle.qw_group.specs.Groups.{HasGroup, group_size}
use Rattle.qw_group.specs.Walks.{AreMet}
use Rattle.qw_group.proofs.WalkRuns.{StandGroups}
use Rattle.qw_group.specs.declared.group.Aggregate.{Aggregate}
use Rattle.qw_physical.specs.Courses.{fed}
use Rattle.qw_physical.specs.Physical.{filter, select}
use Rattle.qw_physical.specs.declared.pipeline.ReadColumn.{ReadColumn}
use Rattle.qw_physical.proofs.Orders.{Alike}
use Rattle.qw_operator.specs.Takes.{AreSized}
use Rattle.qw_operator.proofs.Filters.{Runs}
use Rattle.qw_operator.proofs.KnownLeaves.{AreFit}
use Rattle.qw_operator.proofs.Promised.{AreOwn}
use Rattle.qw_operator.proofs.Seen.{AreWithin, StandsIn}
use Rattle.qw_operator.proofs.Stood.{AllStand, Stood, built_of}
use Rattle.qw_group_pipeline.specs.Groups.{IsGroupPipelineTo, all_anywhere}
use Rattle.qw_group_pipeline.specs.declared.columns.ValueColumn.{ValueColumn}
use Rattle.qw_group_pipeline.proofs.BehindFront.{behind_alike}
use Rattle.qw_group_pipeline.proofs.GroupsFeed.{AreNumbered, AreTheir, IsGoodTo, groups_feed, units_within}
use Rattle.qw_group_pipeline.proofs.RowFeeds.{AreOfKinds, FeedsRest}
use Rattle.qw_group_pipeline.proofs.ValuesCome.{column_for, functions_of}

-- what comes of groups, where the key has so many columns
abbrev pub all_come : Grouped → (place columns : ℕ) → List SetFunctionKind → (rows : List (List Val)) → List Row → Flow (List Val)
all_come query place columns functions rows entries =
    flow_over (λ (e : Row). flow_by (function_values place functions (members columns e.values rows)) (λ vs. fed [] (filter query.having ∷ []) (select query.items) (e.values ++ vs))) entries

pub come_alike : (query : Grouped) (place columns : ℕ) (functions : List SetFunctionKind) (rows : List (List Val)) (entries : List Row) → 1 ≤ place → place ≡ length query.columns → columns ≡ length query.columns → functions ≡ kinds_of query.functions → AreMet columns rows entries →
    Alike (all_come query place columns functions rows entries) (behind_front query (record { rows = rows; codes = [] }))
come_alike query place columns functions rows entries some place_is columns_is functions_are met =
    let n : ℕ = length query.columns in
    let behind : Flow (List Val) = behind_front query (record { rows = rows; codes = [] }) in
    subst (λ (m : ℕ). Alike (all_come query m columns functions rows entries) behind) (sym place_is)
    (subst (λ (m : ℕ). Alike (all_come query n m functions rows entries) behind) (sym columns_is)
    (subst (λ (fs : List SetFunctionKind). Alike (all_come query n n fs rows entries) behind) (sym functions_are)
    (behind_alike query rows entries (omega (arith, some, place_is)) (subst (λ (m : ℕ). AreMet m rows entries) columns_is met))))

module _ (c : Cells) (stoods : List Stood) (base : ℕ) (sink : FlowSink) (runs : Runs c stoods base sink) (most fuel many : ℕ) (types : List ValType) (turns : 1024 < fuel) (Rest : List Known → (next : ℕ) → Statement → List ValType → Type 0) (units : List Val → ℕ) (query : Grouped)
    (literals : List Known) (directory next : ℕ) (key : List ReadColumn) (values : List ValueColumn) (a : Statement) (own : List ValType) (h : IsGroupPipelineTo Rest literals directory next key values a own) (low : base ≤ next)
    (room : next + length own ≤ many) (within : AreWithin next literals) (declared : AreDeclared types literals) (own_types : AreOwn types next own)
    (feeds : FeedsRest c stoods base sink most fuel many types (all_anywhere key values ++ literals) Rest (λ row. Unit {0}) (fed (built_of stoods) (filter query.having ∷ []) (select query.items)) units)
    (kinds : AreOfKinds values) (sized : AreSized key) (d_low : (5 ≤ directory) × (directory < next)) (numbered : AreNumbered 0 key) (numbered_values : AreNumbered (length key) (map column_for values))
    (some : 1 ≤ length key) (key_is : length key ≡ length query.columns) (functions_are : functions_of values ≡ kinds_of query.functions) where
  abbrev pub units_of : (columns : ℕ) → (rows : List (List Val)) → List Val → ℕ
  units_of = units_within key values (fed (built_of stoods) (filter query.having ∷ []) (select query.items)) units

  pub query_feeds : (Text : Part → ℕ → List ℕ → Type 0) (fields : List Field) (aggregates : List Aggregate) (theirs : AreTheir aggregates values) (same_many : length fields ≡ length key) (k o front : ℕ) (rows : List (List Val)) (s0 : LowState)
      (also : (p : Part) (i : ℕ) (octets : List ℕ) → Text p i octets → StandsIn c s0 p i octets) → StandGroups (length fields) (HasGroup Text fields aggregates) (group_size fields aggregates) k o directory front rows s0 → AllStand c stoods s0 →
      ((at width : ℕ) → pos k o ≤ at → at + width ≤ front → sink.Spared at width) → ((p at width : ℕ) → 2 ≤ width → pos k o ≤ pos p at → pos p at + width ≤ front → c (Own p) at width ≡ s0.cells (Own p) at width) →
      IsLess c s0.cells → many ≤ length s0.locals → (1 ≤ length values → length rows < 10 ^ 18) → length (keys (length fields) rows) < fuel → ((row : List Val) → AreHeld literals row (seen c s0)) → ((row : List Val) → AreFit row literals) →
      AllByRecursion (IsGoodTo key values units fuel (length fields) rows) (keys (length fields) rows) →
      (entries : List Row) × AreMet (length fields) rows entries × Alike (all_come query (length key) (length fields) (functions_of values) rows entries) (behind_front query (record { rows = rows; codes = [] }))
      × FeedsTo sink most fuel (1025 + spend (λ (e : Row). units_of (length fields) rows e.values) entries) (Below next) Any (all_come query (length key) (length fields) (functions_of values) rows entries) a s0
  query_feeds Text fields aggregates theirs same_many k o front rows s0 also groups stand spared table_seen less long few keys_few literals_held literals_fit good =
      let done = groups_feed c stoods base sink runs most fuel many types turns Rest (λ row. Unit {0}) (fed (built_of stoods) (filter query.having ∷ []) (select query.items)) units
      literals directory next key values a own h low room within declared own_types feeds kinds sized d_low numbered numbered_values Text fields aggregates theirs same_many k o front rows s0 also groups stand spared table_seen less long few keys_few literals_held literals_fit good (λ kvs vs stored is. tt) in (
        done.0,
        done.1,
        come_alike query (length key) (length fields) (functions_of values) rows done.0 some key_is (let one = same_many in let two = key_is in omega (arith, one, two)) functions_are done.1,
        done.2,
      )
