-- The places of a grouped query's literals and columns, and the statement that rests on them.
use Rattle.std.proofs.Common.{◌≡◌, ℕ, ◌+◌, ◌*◌, ◌≤◌, Option, Some, List, [], ◌∷◌, ◌++◌, drop, length, map, sum_by, refl, sym, ap, ap₂, ◌∙◌, subst, subst₂, arith}
use Rattle.std.specs.List.{AllByRecursion}
use Rattle.std.proofs.lemmas.List.{length-map, map-append}
use Rattle.std.proofs.lemmas.List.Sums.{sum_by-append, sum_by-cons}
use Rattle.qw_types.specs.declared.kind.Kind.{Kind}
use Rattle.qw_module.specs.declared.instruction.ValType.{ValType}
use Rattle.qw_scalar.specs.Expression.{Expression}
use Rattle.qw_scalar.specs.Tree.{expression_of}
use Rattle.qw_scalar.specs.Typing.{kind_of}
use Rattle.qw_grouped.specs.declared.set_function.SetFunctionKind.{SetFunctionKind}
use Rattle.qw_map.specs.Layout.{Layout, descriptor_size}
use Rattle.qw_map.specs.declared.layout.Used.{Used}
use Rattle.qw_leaves.proofs.LeafLists.{all_back, all_front}
use Rattle.qw_low.specs.declared.step.LowStep.{LowStep}
use Rattle.qw_low.specs.Steps.{steps_of}
use Rattle.qw_feed.specs.Room.{space_block}
use Rattle.qw_expr.specs.Computes.{Known}
use Rattle.qw_read.specs.declared.reader.Reader.{Reader}
use Rattle.qw_physical.specs.Coded.{operator_of, pipeline_of, sink_of}
use Rattle.qw_physical.specs.Physical as physical
use Rattle.qw_physical.specs.declared.pipeline.Operator.{Operator}
use Rattle.qw_physical.specs.declared.pipeline.Pipeline.{Pipeline}
use Rattle.qw_physical.specs.declared.pipeline.ReadColumn.{ReadColumn}
use Rattle.qw_operator.specs.Carries.{directory}
use Rattle.qw_operator.specs.Takes.{CanCarry}
use Rattle.qw_operator.specs.Grouping.{CanGroup, Group, TakeKinds, group_of}
use Rattle.qw_group_pipeline.specs.Groups.{IsGroupPipeline}
use Rattle.qw_group_pipeline.specs.declared.columns.ValueColumn.{ValueColumn}
use Rattle.qw_compile.specs.CourseSpan.{course_span}
use Rattle.qw_compile.specs.Placed.{CanPlace, known_over}
use Rattle.qw_compile.specs.QueryLiterals.{query_words}
use Rattle.qw_compile.specs.QueryLocals.{own_start, query_locals}
use Rattle.qw_compile.specs.QueryMade.{literal_locals, literals_by}
use Rattle.qw_compile.specs.Statements.{AreCourses}
use Rattle.qw_compile.specs.declared.courses.Emitted.{Emitted}
use Rattle.qw_compile.specs.declared.courses.Places.{Places}
use Rattle.qw_compile.specs.declared.query_statement.QueryStatement.{QueryStatement}
use Rattle.qw_compile_whole.specs.GroupedLimits.{gathering_span}
use Rattle.qw_compile_whole.specs.GroupedMade.{IsGroupedMade}
use Rattle.qw_compile_whole.specs.GroupedPlaced.{CanGather, EmitsGrouped, EmitsParts, LastSelects, Selects, gathering_of, group_over}
use Rattle.qw_compile_whole.specs.GuardedStatements.{IsGatheringBy, guard_for, guarded_block_of}
use Rattle.qw_compile_whole.specs.LastGroup.{IsLastGroup}
use Rattle.qw_compile_whole.specs.StatementAround.{ArePlacedPasses, IsAround}
use Rattle.qw_compile_whole.specs.declared.gathering.LastGroup.{LastGroup}
use Rattle.qw_compile_whole.specs.declared.statement_around.PlacedPasses.{PlacedPasses}
use Rattle.qw_compile_whole.proofs.GatheringLengths.{gathering_as_course}
use Rattle.qw_compile_whole.proofs.GatheringPlaced.{gathering_as}
use Rattle.qw_compile_whole.proofs.StatementAround.{placed_as}

-- ---- the last one
-- what holds of the last one's items
pub last_selects : (P : List Expression → Type 0) (ps : List physical.Pipeline) (p : physical.Pipeline) (items : List Expression) → p.sink ≡ physical.select items → LastSelects P (ps ++ p ∷ []) → P items
last_selects P [] p items is h = subst (Selects P) is h
last_selects P (q ∷ []) p items is h = last_selects P [] p items is h
last_selects P (q ∷ r ∷ ps) p items is h = last_selects P (r ∷ ps) p items is h

-- ---- the statement, from what was emitted
pub grouped_made : (tables : ℕ) (texts : List (List ℕ)) (ps : List Pipeline) (behind : Pipeline) (columns : List ReadColumn) (m : PlacedPasses) → ArePlacedPasses tables texts ps behind columns m → (key : List ReadColumn) (values : List ValueColumn) (used : List Used) (emitted : Emitted) (made : QueryStatement) →
    EmitsParts m.places m.first (map pipeline_of m.pipelines.items) key values (pipeline_of m.behind) emitted.block.code.items emitted.own.items emitted.kinds.items → IsAround tables texts (ps ++ behind ∷ []) columns used emitted made →
    (group : Group) × IsGroupedMade tables texts ps group key values behind columns used made.layout made.block.code.items made.locals.items
grouped_made tables texts ps behind columns m are key values used emitted made parts a =
    let e = subst₂ (λ (l : List Pipeline) (p : Pipeline). EmitsParts m.places m.first (map pipeline_of l) key values (pipeline_of p) emitted.block.code.items emitted.own.items emitted.kinds.items) are.pipelines_are are.behind_is parts in
    let guard : Option ℕ = guard_for (length ps) (length values) in
    let h : EmitsGrouped (guard_for (length ps) (length values)) m.places m.first e.building e.gathering.entry e.gathering.operators e.group key values (pipeline_of behind) emitted.block.code.items emitted.own.items emitted.kinds.items =
    subst (λ (n : ℕ). EmitsGrouped (guard_for n (length values)) m.places m.first e.building e.gathering.entry e.gathering.operators e.group key values (pipeline_of behind) emitted.block.code.items emitted.own.items emitted.kinds.items) (length-map ps pipeline_of) e.emitted in
    let G : Group = e.group in (
      G,
      record {
        building = e.building;
        gathering = e.gathering;
        pipelines_are = e.pipelines_are;
        leads = a.leads;
        sets = a.sets;
        builds = h.builds;
        gathers = h.gathers;
        walk = h.walk;
        fields = h.fields;
        builds_own = h.builds_own;
        gathers_own = h.gathers_own;
        walk_own = h.walk_own;
        table_is = e.table_is;
        columns_is = e.columns_is;
        functions_are = e.functions_are;
        values_are = e.values_are;
        code_is =
            a.code_is ∙ (ap (λ (l : List LowStep). steps_of (space_block (descriptor_size made.layout)) ++ (steps_of a.leads ++ (steps_of a.sets ++ l))) h.code_is
            ∙ ap₂ (λ (t n : ℕ). steps_of (guarded_block_of (guard_for (length ps) (length values)) t (descriptor_size made.layout) a.leads a.sets h.builds n h.gathers h.walk)) are.are.tables_is e.table_is);
        locals_are = a.locals_are ∙ ap (query_locals tables (length texts) (length (query_words (ps ++ behind ∷ []))) columns) h.own_is;
        leads_all = a.leads_all;
        sets_all = a.sets_all;
        built = placed_as tables texts ps behind columns m are (λ (l : List Known) (rs : List Reader) (x : ℕ). AreCourses l rs x e.building h.builds h.builds_own) h.built;
        gathered = gathering_as guard _ _ _ (gathering_of e.gathering.entry e.gathering.operators G) e.gathering G h.fields h.gathers h.gathers_own refl refl
            (placed_as tables texts ps behind columns m are (λ (l : List Known) (rs : List Reader) (x : ℕ). IsGatheringBy guard l rs (x + length h.builds_own) (gathering_of e.gathering.entry e.gathering.operators G) G h.fields h.gathers h.gathers_own) h.gathered);
        field_kinds = h.field_kinds;
        walked = subst (λ (t : ℕ). IsGroupPipeline (literals_by tables (length columns) texts (ps ++ behind ∷ [])) (directory t) (own_start tables (literal_locals texts (ps ++ behind ∷ [])) (length columns) + length h.builds_own + length h.gathers_own) key values (pipeline_of behind).operators (pipeline_of behind).sink h.walk h.walk_own) e.table_is
            (placed_as tables texts ps behind columns m are (λ (l : List Known) (rs : List Reader) (x : ℕ). IsGroupPipeline l (directory G.table) (x + length h.builds_own + length h.gathers_own) key values (pipeline_of behind).operators (pipeline_of behind).sink h.walk h.walk_own) h.walked);
        columns_are = ap (λ (l : Layout). l.columns) a.layout_is;
        octets_are = ap (λ (l : Layout). l.literals) a.layout_is;
        kinds_are = ap (λ (l : Layout). map (λ (k : Kind). Some k) l.cells) a.layout_is ∙ h.kinds_are;
        utf8 = a.utf8;
      },
    )

-- ---- the pipelines taken apart
pub gather_placed : (p : Places) (q : physical.Pipeline) (g : Group) → CanPlace p q → q.sink ≡ physical.select g.values → CanGroup g → CanGather p q.entry q.operators g
gather_placed p q g h is can = record { some = h.some; takes = subst (λ (s : physical.Sink). CanCarry (known_over p q.entry) q.operators s) is h.takes; groups = can }

pub group_can : (g h : Group) → g.columns ≡ h.columns → g.functions ≡ h.functions → g.values ≡ h.values → CanGroup h → CanGroup g
group_can g h one two three can = record {
  many = omega (arith, can.many, one, ap (λ (l : List SetFunctionKind). length l) two, ap (λ (l : List Expression). length l) three);
  few = omega (arith, can.few, ap (λ (l : List Expression). length l) three);
  arguments = subst (λ (fs : List SetFunctionKind). TakeKinds fs (drop g.columns (map kind_of g.values))) (sym two)
      (subst (λ (n : ℕ). TakeKinds h.functions (drop n (map kind_of g.values))) (sym one) (subst (λ (l : List Expression). TakeKinds h.functions (drop h.columns (map kind_of l))) (sym three) can.arguments));
}

module _ (all : List Pipeline) (columns : ℕ) (values : List ValueColumn) (m : LastGroup) (is : IsLastGroup all columns values m) where
  pub apart : map pipeline_of all ≡ map pipeline_of m.builders.items ++ pipeline_of is.last ∷ []
  apart = ap (λ (l : List Pipeline). map pipeline_of l) is.all_are ∙ map-append pipeline_of m.builders.items (is.last ∷ [])

  pub builders_can : (p : Places) → AllByRecursion (λ (q : Pipeline). CanPlace p (pipeline_of q)) all → AllByRecursion (λ (q : Pipeline). CanPlace p (pipeline_of q)) m.builders.items
  builders_can p can = all_front (λ (q : Pipeline). CanPlace p (pipeline_of q)) m.builders.items (is.last ∷ []) (subst (AllByRecursion (λ (q : Pipeline). CanPlace p (pipeline_of q))) is.all_are can)

  -- what holds of its parts holds of the last one
  pub as_last : (P : Option ℕ → ℕ → List physical.Operator → Type 0) → P m.guard m.entry (map operator_of m.operators.items) → P (guard_for (length (map pipeline_of all)) (length values)) is.last.entry (pipeline_of is.last).operators
  as_last P h =
      subst (λ (g : Option ℕ). P g is.last.entry (pipeline_of is.last).operators) (is.guard_is ∙ ap (λ (n : ℕ). guard_for n (length values)) (sym (length-map all pipeline_of)))
      (subst₂ (λ (entry : ℕ) (os : List Operator). P m.guard entry (map operator_of os)) is.entry_is is.operators_are h)

  module _ (key : List ReadColumn) (keyed : columns ≡ length key) (groups : LastSelects (λ items. CanGroup (group_over (length all) key values items)) (map pipeline_of all)) where
    grouped_can : CanGroup (group_of m.group)
    grouped_can =
        group_can (group_of m.group) (group_over (length all) key values (group_of m.group).values) (is.columns_are ∙ keyed) is.functions_are refl
        (last_selects (λ items. CanGroup (group_over (length all) key values items)) (map pipeline_of m.builders.items) (pipeline_of is.last) (group_of m.group).values (ap sink_of is.selects)
        (subst (LastSelects (λ items. CanGroup (group_over (length all) key values items))) apart groups))

    pub last_gathers : (p : Places) → AllByRecursion (λ (q : Pipeline). CanPlace p (pipeline_of q)) all → CanGather p m.entry (map operator_of m.operators.items) (group_of m.group)
    last_gathers p can =
        subst₂ (λ (entry : ℕ) (os : List Operator). CanGather p entry (map operator_of os) (group_of m.group)) (sym is.entry_is) (sym is.operators_are)
        (gather_placed p (pipeline_of is.last) (group_of m.group) (all_back (λ (q : Pipeline). CanPlace p (pipeline_of q)) m.builders.items (is.last ∷ []) (subst (AllByRecursion (λ (q : Pipeline). CanPlace p (pipeline_of q))) is.all_are can)).0 (ap sink_of is.selects) grouped_can)

    -- how many steps and locals there are
    pub parts_long : (readers : List Reader) (emitted walks : ℕ) → emitted ≤ sum_by (course_span readers) m.builders.items + gathering_span readers m.entry m.operators.items m.group + walks → emitted ≤ sum_by (course_span readers) all + 356 * (columns + length values) + walks + 100
    parts_long readers emitted walks short =
        let sums = ap (λ (l : List Pipeline). sum_by (course_span readers) l) is.all_are ∙ sum_by-append (course_span readers) m.builders.items (is.last ∷ []) in
        let one = sum_by-cons (course_span readers) is.last [] in
        let course = ap₂ (λ (entry : ℕ) (os : List Operator). gathering_span readers entry os m.group) is.entry_is is.operators_are ∙ gathering_as_course readers is.last m.group is.selects in
        let can = grouped_can in
        let mapped = length-map m.group.values.items expression_of in
        let functions = ap (λ (l : List SetFunctionKind). length l) is.functions_are in
        let values_many = length-map values (λ (v : ValueColumn). v.function) in
        omega (arith, sums, one, course, can.many, mapped, functions, values_many, is.columns_are, short)

  -- what was emitted
  pub parts_emitted : (p : Places) (first : ℕ) (key : List ReadColumn) (behind : physical.Pipeline) (code : List LowStep) (own : List ValType) (kinds : List Kind) → columns ≡ length key →
      EmitsGrouped m.guard p first (map pipeline_of m.builders.items) m.entry (map operator_of m.operators.items) (group_of m.group) key values behind code own kinds → EmitsParts p first (map pipeline_of all) key values behind code own kinds
  parts_emitted p first key behind code own kinds keyed e = record {
    building = map pipeline_of m.builders.items;
    gathering = pipeline_of is.last;
    pipelines_are = apart;
    group = group_of m.group;
    table_is = is.table_is ∙ sym (length-map m.builders.items pipeline_of);
    columns_is = is.columns_are ∙ keyed;
    functions_are = is.functions_are;
    values_are = ap sink_of is.selects;
    emitted = as_last (λ (guard : Option ℕ) (entry : ℕ) (os : List physical.Operator). EmitsGrouped guard p first (map pipeline_of m.builders.items) entry os (group_of m.group) key values behind code own kinds) e;
  }
