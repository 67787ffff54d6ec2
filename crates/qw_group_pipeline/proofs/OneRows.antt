-- What is fed where all rows are one group, as without GROUP BY (ISO/IEC 9075:1992, 7.8 and 7.9): the values of the set functions come out of the areas that
-- have taken all rows, also none, and their row of the grouped table goes on; and that is what HAVING and the select list make of the rows.
use Rattle.std.proofs.Common.{◌≡◌, ℕ, ◌+◌, ◌*◌, ◌<◌, ◌≤◌, ◌^◌, List, [], ◌∷◌, ◌++◌, length, map, Result, Ok, Some, slice_get, sym, ap, ap₂, ◌∙◌, subst, append-nil, arith}
use Rattle.qw_types.specs.declared.code.Code.{Code}
use Rattle.qw_types.specs.declared.value.Val.{Val}
use Rattle.qw_scalar.specs.Expression.{Condition, Expression}
use Rattle.qw_meaning.specs.Flow.{Flow, each, given, kept, selected}
use Rattle.qw_grouped.specs.Grouped.{Grouped, kinds_of}
use Rattle.qw_grouped.specs.Groups.{behind_front, function_values, group_row, grouped_table}
use Rattle.qw_grouped.specs.declared.set_function.SetFunctionKind.{SetFunctionKind}
use Rattle.qw_module.specs.declared.instruction.ValType.{ValType}
use Rattle.qw_low.specs.Syntax.{Statement}
use Rattle.qw_low.specs.State.{Part, Own, Address, Cells, LowState}
use Rattle.qw_low.proofs.LessKnown.{IsLess, seen}
use Rattle.qw_expr.specs.Computes.{Known, AreHeld, AreDeclared}
use Rattle.qw_feed.specs.Feeds.{Any, Sink as FlowSink, FeedsTo, flow_by}
use Rattle.qw_feed.specs.Frames.{Below}
use Rattle.qw_group.specs.Groups.{HasAreas}
use Rattle.qw_group.specs.declared.group.Aggregate.{Aggregate}
use Rattle.qw_group.proofs.EntryAreas.{areas-map, areas-same}
use Rattle.qw_physical.specs.Courses.{fed}
use Rattle.qw_physical.specs.Physical.{filter, select}
use Rattle.qw_operator.proofs.Filters.{Runs}
use Rattle.qw_operator.proofs.KnownLeaves.{AreFit}
use Rattle.qw_operator.proofs.PairRows.{AreAt}
use Rattle.qw_operator.proofs.Promised.{AreOwn}
use Rattle.qw_operator.proofs.Seen.{AreWithin, StandsIn}
use Rattle.qw_operator.proofs.Stood.{AllStand, Stood}
use Rattle.qw_group_pipeline.specs.Groups.{IsOneRow, all_anywhere, most_read}
use Rattle.qw_group_pipeline.specs.declared.columns.ValueColumn.{ValueColumn}
use Rattle.qw_group_pipeline.proofs.BehindFront.{group_chain}
use Rattle.qw_group_pipeline.proofs.GroupsFeed.{AreNumbered, AreTheir, areas_their, numbered_at}
use Rattle.qw_group_pipeline.proofs.RowFeeds.{AreOfKinds, FeedsRest, by_result, group_feeds}
use Rattle.qw_group_pipeline.proofs.ValuesCome.{AreRead, aggregate_of, column_for, functions_of, read_many}

-- ---- what comes of all rows is what the query makes of them
module _ (having : List Condition) (items : List Expression) (functions : List SetFunctionKind) (rows : List (List Val)) where
  abbrev row : Result (List (List Val)) Code
  row = group_row 0 functions (record { key = []; rows = rows })

  one_flow : (f : Flow (List Val)) → f ≡ record { rows = f.rows ++ []; codes = f.codes ++ [] }
  one_flow f = ap₂ (λ (rs : List (List Val)) (cs : List Code). let g : Flow (List Val) = record { rows = rs; codes = cs } in g) (sym (append-nil f.rows)) (sym (append-nil f.codes))

  one_comes : flow_by (function_values 0 functions rows) (fed [] (filter having ∷ []) (select items)) ≡ each (selected items) (each (kept having) (grouped_table 0 functions (record { rows = rows; codes = [] })))
  one_comes = group_chain having items [] (function_values 0 functions rows) ∙ ap (λ (f : Flow (List Val)). each (selected items) (each (kept having) f)) (one_flow (given row))

-- of a query without a grouped column
pub behind_one : (query : Grouped) (rows : List (List Val)) → length query.columns ≡ 0 →
    flow_by (function_values 0 (kinds_of query.functions) rows) (fed [] (filter query.having ∷ []) (select query.items)) ≡ behind_front query (record { rows = rows; codes = [] })
behind_one query rows none =
    subst (λ (n : ℕ). flow_by (function_values 0 (kinds_of query.functions) rows) (fed [] (filter query.having ∷ []) (select query.items)) ≡ each (selected query.items) (each (kept query.having) (grouped_table n (kinds_of query.functions) (record { rows = rows; codes = [] })))) (sym none)
    (one_comes query.having query.items (kinds_of query.functions) rows)

-- ---- the block feeds it
module _ (c : Cells) (stoods : List Stood) (base : ℕ) (sink : FlowSink) (runs : Runs c stoods base sink) (most fuel many : ℕ) (types : List ValType) (Rest : List Known → (next : ℕ) → Statement → List ValType → Type 0) (Good : List Val → Type 0) (work : List Val → Flow (List Val)) (units : List Val → ℕ)
    (literals : List Known) (areas next : ℕ) (values : List ValueColumn) (a : Statement) (own : List ValType) (h : IsOneRow Rest literals areas next values a own) (low : base ≤ next) (areas_low : areas < next) (room : next + length own ≤ many) (within : AreWithin next literals)
    (declared : AreDeclared types literals) (own_types : AreOwn types next own) (feeds : FeedsRest c stoods base sink most fuel many types (all_anywhere [] values ++ literals) Rest Good work units) (kinds : AreOfKinds values) (numbered : AreNumbered 0 (map column_for values)) where
  -- Areas have taken these rows (`HasSingle`), and are seen, in cells of two octets and more. Another table may stand behind them.
  module _ (Text : Part → ℕ → List ℕ → Type 0) (aggregates : List Aggregate) (theirs : AreTheir aggregates values) (k o : ℕ) (rows : List (List Val)) (s : LowState) (also : (p : Part) (i : ℕ) (octets : List ℕ) → Text p i octets → StandsIn c s p i octets)
      (leads : slice_get s.locals areas ≡ Some (Address (Own k) o)) (has : HasAreas Text 0 aggregates rows s.cells k o) (areas_seen : (at width : ℕ) → 2 ≤ width → o ≤ at → at + width ≤ o + 32 * length aggregates → c (Own k) at width ≡ s.cells (Own k) at width) (less : IsLess c s.cells) (long : many ≤ length s.locals)
      (stand : AllStand c stoods s) (goods : (vs : List Val) → function_values 0 (functions_of values) rows ≡ Ok vs → Good vs) (few : 1 ≤ length values → length rows < 10 ^ 18) (literals_held : (row : List Val) → AreHeld literals row (seen c s)) (literals_fit : (row : List Val) → AreFit row literals) (read : (vs : List Val) → function_values 0 (functions_of values) rows ≡ Ok vs → AreRead values vs)
      (enough : 1 + (most_read (functions_of values) + by_result (function_values 0 (functions_of values) rows) units) ≤ fuel) where
    there : HasAreas (StandsIn c s) 0 (map aggregate_of values) rows c k (o + 0)
    there =
        let zeroth : o ≡ o + 0 = omega arith in
        subst (λ (n : ℕ). HasAreas (StandsIn c s) 0 (map aggregate_of values) rows c k n) zeroth
        (areas-map Text (StandsIn c s) also c k 0 (map aggregate_of values) rows o (areas_their Text 0 aggregates values rows c k o theirs (areas-same Text 0 aggregates rows s.cells c k o areas_seen has)))

    values_there : (vs : List Val) → AreRead values vs → AreAt vs (map column_for values) vs
    values_there vs read_vs = subst (λ (l : List Val). AreAt l (map column_for values) vs) (append-nil vs) (numbered_at (map column_for values) [] vs [] numbered (read_many values vs read_vs))

    pub one_feeds : FeedsTo sink most fuel (1 + (most_read (functions_of values) + by_result (function_values 0 (functions_of values) rows) units)) (Below next) Any (flow_by (function_values 0 (functions_of values) rows) work) a s
    one_feeds =
        group_feeds c stoods base sink runs most fuel many types Rest Good work units literals areas 0 next [] values a own h low areas_low room within declared own_types feeds kinds tt k o [] rows s leads tt there stand tt few less long literals_held literals_fit read goods
        (λ vs. tt) values_there enough
