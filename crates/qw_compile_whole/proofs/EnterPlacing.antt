-- The places of the literals and columns of a grouped query with DISTINCT, and the statement that rests on them.
use Rattle.std.proofs.Common.{◌≡◌, ℕ, ◌+◌, ◌*◌, ◌≤◌, eqb, Option, Some, List, [], ◌∷◌, ◌++◌, drop, length, map, sum_by, refl, sym, ap, ap₂, ◌∙◌, subst, subst₂, arith}
use Rattle.std.specs.List.{AllByRecursion, IsDistinct}
use Rattle.std.proofs.lemmas.List.{length-map}
use Rattle.qw_types.specs.declared.kind.Kind.{Kind}
use Rattle.qw_module.specs.declared.instruction.ValType.{ValType}
use Rattle.qw_scalar.specs.Expression.{Expression}
use Rattle.qw_scalar.specs.Nodes.{nodes, nodes_of}
use Rattle.qw_scalar.specs.Typing.{kind_of}
use Rattle.qw_grouped.specs.declared.set_function.SetFunctionKind.{SetFunctionKind}
use Rattle.qw_map.specs.Layout.{Layout, descriptor_size}
use Rattle.qw_map.specs.declared.layout.Used.{Used}
use Rattle.qw_algebra.proofs.Lists.{all_more}
use Rattle.qw_low.specs.declared.step.LowStep.{LowStep}
use Rattle.qw_low.specs.Steps.{steps_of}
use Rattle.qw_low.specs.Syntax.{seq}
use Rattle.qw_feed.specs.Room.{space_block}
use Rattle.qw_feed.specs.Rows.{begin_block, finish_block}
use Rattle.qw_expr.specs.Computes.{Known}
use Rattle.qw_read.specs.declared.reader.Reader.{Reader}
use Rattle.qw_physical.specs.Coded.{operator_of, pipeline_of, sink_of}
use Rattle.qw_physical.specs.Named.{numbers}
use Rattle.qw_physical.specs.Physical as physical
use Rattle.qw_physical.specs.Physical.{filter, probe, select}
use Rattle.qw_physical.specs.Sizes.{size}
use Rattle.qw_physical.specs.declared.pipeline.Pipeline.{Pipeline}
use Rattle.qw_physical.specs.declared.pipeline.ReadColumn.{ReadColumn}
use Rattle.qw_physical.specs.declared.pipeline.Sink.{Sink}
use Rattle.qw_physical.specs.declared.pipeline.Sink.TheVariants as sinks
use Rattle.qw_table.specs.Tables.{directory_block}
use Rattle.qw_operator.specs.Carries.{directory}
use Rattle.qw_operator.specs.Span.{sink_span, span}
use Rattle.qw_operator.specs.Takes.{CanCarry, anywhere}
use Rattle.qw_operator.specs.Grouping.{CanGroup, Group, TakeKinds, group_of, group_span}
use Rattle.qw_operator.specs.declared.group.Group as coded
use Rattle.qw_group_pipeline.specs.Groups.{Grouping, InEnd, IsGroupPipeline, IsGroupPipelineTo, all_anywhere}
use Rattle.qw_group_pipeline.specs.declared.columns.ValueColumn.{ValueColumn}
use Rattle.qw_compile.specs.CourseSpan.{course_span}
use Rattle.qw_compile.specs.Limits.{keys_built, keys_sought, lookups}
use Rattle.qw_compile.specs.Placed.{literals_placed}
use Rattle.qw_compile.specs.QueryLiterals.{query_words}
use Rattle.qw_compile.specs.QueryLocals.{own_start, query_locals, readers_over}
use Rattle.qw_compile.specs.QueryMade.{CanStand, literal_locals, literals_by}
use Rattle.qw_compile.specs.Statements.{AreCourses, builds_block}
use Rattle.qw_compile.specs.declared.courses.Emitted.{Emitted}
use Rattle.qw_compile.specs.declared.courses.Places.{Places}
use Rattle.qw_compile.specs.declared.query_statement.QueryStatement.{QueryStatement}
use Rattle.qw_compile.proofs.ReadersFew.{few_over}
use Rattle.qw_compile.proofs.SpanLengths.{CanBe, all_steps, few_operators}
use Rattle.qw_compile_whole.specs.DistinctMade.{IsDistinctMade}
use Rattle.qw_compile_whole.specs.DistinctPlaced.{CanEnter, EmitsDistinct, EmitsDistinctParts}
use Rattle.qw_compile_whole.specs.DistinctStatements.{distinct_block_of}
use Rattle.qw_compile_whole.specs.GroupedDistinctLimits.{enter_span}
use Rattle.qw_compile_whole.specs.GroupedLimits.{AreShortGrouped, gathering_span, walk_span}
use Rattle.qw_compile_whole.specs.GroupedPlaced.{CanWalk, LastSelects, gathering_of, group_over}
use Rattle.qw_compile_whole.specs.GuardedStatements.{IsGatheringBy, gather_block, guard_for}
use Rattle.qw_compile_whole.specs.LastGroup.{IsLastGroup}
use Rattle.qw_compile_whole.specs.StatementAround.{ArePlacedPasses, IsAround}
use Rattle.qw_compile_whole.specs.declared.gathering.LastGroup.{LastGroup}
use Rattle.qw_compile_whole.specs.declared.statement_around.PlacedPasses.{PlacedPasses}
use Rattle.qw_compile_whole.proofs.DistinctTogether.{none_behind}
use Rattle.qw_compile_whole.proofs.GatheringLengths.{span_more}
use Rattle.qw_compile_whole.proofs.GatheringPlaced.{gathering_as}
use Rattle.qw_compile_whole.proofs.GroupedPlacing.{apart, as_last, parts_long}
use Rattle.qw_compile_whole.proofs.StatementAround.{placed_as}

-- ---- the second table
few_items : (known : List Known) (os : List physical.Operator) (items : List Expression) → CanCarry known os (select items) → length items ≤ 512
few_items known [] items can = can.1
few_items known (filter cs ∷ os) items can = few_items known os items can.1
few_items known (probe p ∷ os) items can = few_items (map anywhere p.kept ++ known) os items can.3

pub into_can : (into : Group) → into.columns ≡ length into.values → into.functions ≡ [] → length into.values ≤ 512 → CanGroup into
into_can into columns functions few =
    let none : length into.functions ≡ 0 = ap (λ (l : List SetFunctionKind). length l) functions in
    let dropped : drop into.columns (map kind_of into.values) ≡ [] = none_behind into.columns (map kind_of into.values) (omega (arith, length-map into.values kind_of, columns)) in
    record {
      many = omega (arith, columns, none);
      few = few;
      arguments = subst (λ (fs : List SetFunctionKind). TakeKinds fs (drop into.columns (map kind_of into.values))) (sym functions) (subst (TakeKinds []) (sym dropped) tt);
    }

pub enters_placed : (p : Places) (key : List ReadColumn) (values : List ValueColumn) (behind : physical.Pipeline) (into : Group) → behind.sink ≡ select into.values → into.columns ≡ length into.values → into.functions ≡ [] → CanWalk p key values behind → CanEnter p key values behind.operators into
enters_placed p key values behind into is columns functions can =
    let takes : CanCarry (all_anywhere key values ++ literals_placed p) behind.operators (select into.values) = subst (CanCarry (all_anywhere key values ++ literals_placed p) behind.operators) is can in
    record { takes = takes; groups = into_can into columns functions (few_items (all_anywhere key values ++ literals_placed p) behind.operators into.values takes) }

-- ---- the pipelines taken apart
module _ (all : List Pipeline) (values : List ValueColumn) (key : List ReadColumn) (m : LastGroup) (is : IsLastGroup all (length key) values m) where
  pub distinct_parts_emitted : (p : Places) (first : ℕ) (behind : physical.Pipeline) (into : Group) (key_again : List ReadColumn) (values_again : List ValueColumn) (again : physical.Pipeline) (code : List LowStep) (own : List ValType) (kinds : List Kind) →
      into.table ≡ length all → into.columns ≡ length into.values → into.functions ≡ [] → behind.sink ≡ select into.values →
      EmitsDistinct m.guard p first (map pipeline_of m.builders.items) m.entry (map operator_of m.operators.items) (group_of m.group) key values behind.operators into key_again values_again again code own kinds → EmitsDistinctParts p first (map pipeline_of all) key values behind key_again values_again again code own kinds
  distinct_parts_emitted p first behind into key_again values_again again code own kinds into_table into_columns into_functions into_values e = record {
    building = map pipeline_of m.builders.items;
    gathering = pipeline_of is.last;
    pipelines_are = apart all (length key) values m is;
    group = group_of m.group;
    into = into;
    table_is = is.table_is ∙ sym (length-map m.builders.items pipeline_of);
    columns_is = is.columns_are;
    functions_are = is.functions_are;
    values_are = ap sink_of is.selects;
    into_table = (let few = is.many in omega (arith, into_table, few, length-map m.builders.items pipeline_of));
    into_columns = into_columns;
    into_functions = into_functions;
    into_values = into_values;
    emitted = as_last all (length key) values m is (λ (guard : Option ℕ) (entry : ℕ) (os : List physical.Operator). EmitsDistinct guard p first (map pipeline_of m.builders.items) entry os (group_of m.group) key values behind.operators into key_again values_again again code own kinds) e;
  }

  -- and how many steps and locals there are
  pub distinct_parts_long : (groups : LastSelects (λ items. CanGroup (group_over (length all) key values items)) (map pipeline_of all)) → (readers : List Reader) (behind : Pipeline) (into : coded.Group) → behind.sink ≡ sinks.Select into.values → (emitted walks : ℕ) →
      emitted ≤ sum_by (course_span readers) m.builders.items + gathering_span readers m.entry m.operators.items m.group + enter_span (length key) (length values) behind.operators.items into + walks →
      emitted ≤ sum_by (course_span readers) all + 356 * (length key + length values) + walk_span (length key) (length values) behind + 356 * length into.values.items + walks + 200
  distinct_parts_long groups readers behind into shows emitted walks short =
      let two = ap (λ (s : Sink). span behind.operators.items (sink_span s)) shows in
      let three = span_more behind.operators.items (group_span into) (sink_span (sinks.Select into.values)) (356 * length into.values.items + 100) (omega arith) in
      let long = parts_long all (length key) values m is key refl groups readers emitted (enter_span (length key) (length values) behind.operators.items into + walks) (omega (arith, short)) in
      omega (arith, two, three, long)

-- ---- the statement, from what was emitted
pub distinct_made : (tables : ℕ) (texts : List (List ℕ)) (ps : List Pipeline) (behind : Pipeline) (columns : List ReadColumn) (m : PlacedPasses) → ArePlacedPasses tables texts ps behind columns m → (key : List ReadColumn) (values : List ValueColumn) (key_again : List ReadColumn) (values_again : List ValueColumn) (again : Pipeline)
    (used : List Used) (emitted : Emitted) (made : QueryStatement) →
    EmitsDistinctParts m.places m.first (map pipeline_of m.pipelines.items) key values (pipeline_of m.behind) key_again values_again (pipeline_of again) emitted.block.code.items emitted.own.items emitted.kinds.items → IsAround tables texts (ps ++ behind ∷ []) columns used emitted made →
    IsDistinctMade tables texts ps key values behind key_again values_again again columns used made.layout made.block.code.items made.locals.items
distinct_made tables texts ps behind columns m are key values key_again values_again again used emitted made parts a =
    let e = subst₂ (λ (l : List Pipeline) (p : Pipeline). EmitsDistinctParts m.places m.first (map pipeline_of l) key values (pipeline_of p) key_again values_again (pipeline_of again) emitted.block.code.items emitted.own.items emitted.kinds.items) are.pipelines_are are.behind_is parts in
    let guard : Option ℕ = guard_for (length ps) (length values) in
    let h : EmitsDistinct (guard_for (length ps) (length values)) m.places m.first e.building e.gathering.entry e.gathering.operators e.group key values (pipeline_of behind).operators e.into key_again values_again (pipeline_of again) emitted.block.code.items emitted.own.items emitted.kinds.items =
    subst (λ (n : ℕ). EmitsDistinct (guard_for n (length values)) m.places m.first e.building e.gathering.entry e.gathering.operators e.group key values (pipeline_of behind).operators e.into key_again values_again (pipeline_of again) emitted.block.code.items emitted.own.items emitted.kinds.items) (length-map ps pipeline_of) e.emitted in
    let G : Group = e.group in
    let L : List Known = literals_by tables (length columns) texts (ps ++ behind ∷ []) in
    let start : ℕ = own_start tables (literal_locals texts (ps ++ behind ∷ [])) (length columns) in
    record {
      building = e.building;
      gathering = e.gathering;
      pipelines_are = e.pipelines_are;
      group = G;
      into = e.into;
      leads = a.leads;
      sets = a.sets;
      builds = h.builds;
      gathers = h.gathers;
      enters = h.enters;
      walk = h.walk;
      fields = h.fields;
      into_fields = h.into_fields;
      builds_own = h.builds_own;
      gathers_own = h.gathers_own;
      enters_own = h.enters_own;
      walk_own = h.walk_own;
      table_is = e.table_is;
      columns_is = e.columns_is;
      functions_are = e.functions_are;
      values_are = e.values_are;
      into_table = e.into_table;
      into_columns = e.into_columns;
      into_functions = e.into_functions;
      into_values = e.into_values;
      code_is =
          a.code_is ∙ (ap (λ (l : List LowStep). steps_of (space_block (descriptor_size made.layout)) ++ (steps_of a.leads ++ (steps_of a.sets ++ l)))
          (h.code_is ∙ ap (λ (d : ℕ). steps_of (seq (builds_block m.places.tables 0 h.builds) (seq (gather_block guard m.places.tables G.table h.gathers) (seq (directory_block (directory d)) (seq h.enters (seq begin_block (seq h.walk finish_block))))))) (e.into_table ∙ ap (λ (n : ℕ). n + 1) (sym e.table_is)))
          ∙ ap₂ (λ (t n : ℕ). steps_of (distinct_block_of (guard_for (length ps) (length values)) t (descriptor_size made.layout) a.leads a.sets h.builds n h.gathers h.enters h.walk)) are.are.tables_is e.table_is);
      locals_are = a.locals_are ∙ ap (query_locals tables (length texts) (length (query_words (ps ++ behind ∷ []))) columns) h.own_is;
      leads_all = a.leads_all;
      sets_all = a.sets_all;
      built = placed_as tables texts ps behind columns m are (λ (l : List Known) (rs : List Reader) (x : ℕ). AreCourses l rs x e.building h.builds h.builds_own) h.built;
      gathered = gathering_as guard _ _ _ (gathering_of e.gathering.entry e.gathering.operators G) e.gathering G h.fields h.gathers h.gathers_own refl refl
          (placed_as tables texts ps behind columns m are (λ (l : List Known) (rs : List Reader) (x : ℕ). IsGatheringBy guard l rs (x + length h.builds_own) (gathering_of e.gathering.entry e.gathering.operators G) G h.fields h.gathers h.gathers_own) h.gathered);
      field_kinds = h.field_kinds;
      entered = subst (λ (t : ℕ). IsGroupPipelineTo (InEnd (Grouping h.into_fields e.into) (pipeline_of behind).operators) L (directory t) (start + length h.builds_own + length h.gathers_own) key values h.enters h.enters_own) e.table_is
          (placed_as tables texts ps behind columns m are (λ (l : List Known) (rs : List Reader) (x : ℕ). IsGroupPipelineTo (InEnd (Grouping h.into_fields e.into) (pipeline_of behind).operators) l (directory G.table) (x + length h.builds_own + length h.gathers_own) key values h.enters h.enters_own) h.entered);
      into_kinds = h.into_kinds;
      walked = subst (λ (t : ℕ). IsGroupPipeline L (directory t) (start + length h.builds_own + length h.gathers_own + length h.enters_own) key_again values_again (pipeline_of again).operators (pipeline_of again).sink h.walk h.walk_own) e.into_table
          (placed_as tables texts ps behind columns m are (λ (l : List Known) (rs : List Reader) (x : ℕ). IsGroupPipeline l (directory e.into.table) (x + length h.builds_own + length h.gathers_own + length h.enters_own) key_again values_again (pipeline_of again).operators (pipeline_of again).sink h.walk h.walk_own) h.walked);
      columns_are = ap (λ (l : Layout). l.columns) a.layout_is;
      octets_are = ap (λ (l : Layout). l.literals) a.layout_is;
      kinds_are = ap (λ (l : Layout). map (λ (k : Kind). Some k) l.cells) a.layout_is ∙ h.kinds_are;
      utf8 = a.utf8;
    }

-- ---- of a query that is short
pub distinct_parts_short : (readers : List Reader) → ((entry : ℕ) → length (readers_over entry readers) ≤ 64) → (ps : List Pipeline) → AllByRecursion CanBe ps → (behind : Pipeline) → CanBe behind → (again : Pipeline) → CanBe again → (columns functions keys none : ℕ) →
    AreShortGrouped ps behind (columns + functions + keys) → none ≡ 0 → keys_sought again + (keys_built again + lookups again) ≡ 0 → size nodes nodes_of again ≡ keys →
    sum_by (course_span readers) ps + 356 * (columns + functions) + walk_span columns functions behind + 356 * keys + walk_span keys none again + 200 ≤ 2030000
distinct_parts_short readers few ps can behind can_behind again can_again columns functions keys none short no_values alone many =
    let all = all_steps readers few ps can in
    let own = few_operators behind.operators.items behind.sink can_behind.known can_behind.takes in
    let more = few_operators again.operators.items again.sink can_again.known can_again.takes in
    let before = short.before in
    omega (arith, all, own, more, before.few_keys, before.matched, before.few_lookups, before.few, short.alone, short.few_nodes, no_values, alone, many)

pub distinct_few : (tables : ℕ) (ts : List (List ℕ)) (ps : List Pipeline) (behind : Pipeline) (columns : List ReadColumn) (m : PlacedPasses) → ArePlacedPasses tables ts ps behind columns m → (again : Pipeline) (keys functions key_again none : ℕ) (known known_again : List Known) → IsDistinct eqb (numbers columns) →
    AllByRecursion (λ (q : Pipeline). CanStand tables ts (ps ++ behind ∷ []) columns (pipeline_of q)) ps → CanCarry known (map operator_of behind.operators.items) (sink_of behind.sink) → CanCarry known_again (map operator_of again.operators.items) (sink_of again.sink) → AreShortGrouped ps behind (keys + functions + key_again) →
    none ≡ 0 → keys_sought again + (keys_built again + lookups again) ≡ 0 → size nodes nodes_of again ≡ key_again → (long : ℕ) →
    long ≤ sum_by (course_span m.places.readers.items) m.pipelines.items + 356 * (keys + functions) + walk_span keys functions m.behind + 356 * key_again + walk_span key_again none again + 200 → long ≤ 2030000
distinct_few tables ts ps behind columns m are again keys functions key_again none known known_again once stand enters walks short no_values alone many long emitted =
    let spanned = distinct_parts_short m.places.readers.items (λ entry. subst (λ (rs : List Reader). length (readers_over entry rs) ≤ 64) (sym are.are.readers) (few_over tables _ columns once entry)) ps
    (all_more (λ (q : Pipeline). CanStand tables ts (ps ++ behind ∷ []) columns (pipeline_of q)) CanBe ps (λ q can. record { known = _; takes = can.takes }) stand) behind (record { known = known; takes = enters }) again (record { known = known_again; takes = walks }) keys functions key_again none short no_values alone many in
    let few = subst₂ (λ (l : List Pipeline) (p : Pipeline). long ≤ sum_by (course_span m.places.readers.items) l + 356 * (keys + functions) + walk_span keys functions p + 356 * key_again + walk_span key_again none again + 200) are.pipelines_are are.behind_is emitted in
    omega (arith, spanned, few)
