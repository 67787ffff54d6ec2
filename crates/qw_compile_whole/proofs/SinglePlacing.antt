-- The places of the literals and columns of a query with set functions and no GROUP BY, and the statement that rests on them.
use Rattle.std.proofs.Common.{ℕ, ◌+◌, Option, Some, List, [], ◌∷◌, ◌++◌, length, map, refl, sym, ap, ap₂, ◌∙◌, subst, subst₂}
use Rattle.std.proofs.lemmas.List.{length-map}
use Rattle.qw_types.specs.declared.kind.Kind.{Kind}
use Rattle.qw_module.specs.declared.instruction.ValType.{ValType}
use Rattle.qw_map.specs.Layout.{Layout, descriptor_size}
use Rattle.qw_map.specs.declared.layout.Used.{Used}
use Rattle.qw_low.specs.declared.step.LowStep.{LowStep}
use Rattle.qw_low.specs.Steps.{steps_of}
use Rattle.qw_feed.specs.Room.{space_block}
use Rattle.qw_expr.specs.Computes.{Known}
use Rattle.qw_read.specs.declared.reader.Reader.{Reader}
use Rattle.qw_physical.specs.Coded.{operator_of, pipeline_of, sink_of}
use Rattle.qw_physical.specs.Physical as physical
use Rattle.qw_physical.specs.declared.pipeline.Pipeline.{Pipeline}
use Rattle.qw_physical.specs.declared.pipeline.ReadColumn.{ReadColumn}
use Rattle.qw_operator.specs.Carries.{directory}
use Rattle.qw_operator.specs.Grouping.{Group, group_of}
use Rattle.qw_group_pipeline.specs.Groups.{InSink, IsOneRow}
use Rattle.qw_group_pipeline.specs.declared.columns.ValueColumn.{ValueColumn}
use Rattle.qw_compile.specs.QueryLiterals.{query_words}
use Rattle.qw_compile.specs.QueryLocals.{own_start, query_locals}
use Rattle.qw_compile.specs.QueryMade.{literal_locals, literals_by}
use Rattle.qw_compile.specs.Statements.{AreCourses}
use Rattle.qw_compile.specs.declared.courses.Emitted.{Emitted}
use Rattle.qw_compile.specs.declared.courses.Places.{Places}
use Rattle.qw_compile.specs.declared.query_statement.QueryStatement.{QueryStatement}
use Rattle.qw_compile_whole.specs.GroupedPlaced.{gathering_of}
use Rattle.qw_compile_whole.specs.GuardedSingles.{IsTakingBy, one_group_block_by}
use Rattle.qw_compile_whole.specs.GuardedStatements.{guard_for}
use Rattle.qw_compile_whole.specs.LastGroup.{IsLastGroup}
use Rattle.qw_compile_whole.specs.SingleMade.{IsSingleMade}
use Rattle.qw_compile_whole.specs.SinglePlaced.{EmitsSingle, EmitsSingleParts}
use Rattle.qw_compile_whole.specs.StatementAround.{ArePlacedPasses, IsAround}
use Rattle.qw_compile_whole.specs.declared.gathering.LastGroup.{LastGroup}
use Rattle.qw_compile_whole.specs.declared.statement_around.PlacedPasses.{PlacedPasses}
use Rattle.qw_compile_whole.proofs.GroupedPlacing.{apart, as_last}
use Rattle.qw_compile_whole.proofs.TakingPlaced.{taking_as}
use Rattle.qw_compile_whole.proofs.StatementAround.{placed_as}

-- ---- the statement, from what was emitted
pub single_made : (tables : ℕ) (texts : List (List ℕ)) (ps : List Pipeline) (behind : Pipeline) (columns : List ReadColumn) (m : PlacedPasses) → ArePlacedPasses tables texts ps behind columns m → (values : List ValueColumn) (used : List Used) (emitted : Emitted) (made : QueryStatement) →
    EmitsSingleParts m.places m.first (map pipeline_of m.pipelines.items) values (pipeline_of m.behind) emitted.block.code.items emitted.own.items emitted.kinds.items → IsAround tables texts (ps ++ behind ∷ []) columns used emitted made →
    (group : Group) × IsSingleMade tables texts ps group values behind columns used made.layout made.block.code.items made.locals.items
single_made tables texts ps behind columns m are values used emitted made parts a =
    let e = subst₂ (λ (l : List Pipeline) (p : Pipeline). EmitsSingleParts m.places m.first (map pipeline_of l) values (pipeline_of p) emitted.block.code.items emitted.own.items emitted.kinds.items) are.pipelines_are are.behind_is parts in
    let guard : Option ℕ = guard_for (length ps) (length values) in
    let h : EmitsSingle (guard_for (length ps) (length values)) m.places m.first e.building e.taking.entry e.taking.operators e.group values (pipeline_of behind) emitted.block.code.items emitted.own.items emitted.kinds.items =
    subst (λ (n : ℕ). EmitsSingle (guard_for n (length values)) m.places m.first e.building e.taking.entry e.taking.operators e.group values (pipeline_of behind) emitted.block.code.items emitted.own.items emitted.kinds.items) (length-map ps pipeline_of) e.emitted in
    let G : Group = e.group in (
      G,
      record {
        building = e.building;
        taking = e.taking;
        pipelines_are = e.pipelines_are;
        leads = a.leads;
        sets = a.sets;
        builds = h.builds;
        takes = h.takes;
        one = h.one;
        fields = h.fields;
        builds_own = h.builds_own;
        takes_own = h.takes_own;
        one_own = h.one_own;
        table_is = e.table_is;
        no_columns = e.no_columns;
        functions_are = e.functions_are;
        values_are = e.values_are;
        code_is =
            a.code_is ∙ (ap (λ (l : List LowStep). steps_of (space_block (descriptor_size made.layout)) ++ (steps_of a.leads ++ (steps_of a.sets ++ l))) h.code_is
            ∙ ap₂ (λ (t n : ℕ). steps_of (one_group_block_by (guard_for (length ps) (length values)) t (descriptor_size made.layout) a.leads a.sets h.builds n (length G.functions) h.takes h.one)) are.are.tables_is e.table_is);
        locals_are = a.locals_are ∙ ap (query_locals tables (length texts) (length (query_words (ps ++ behind ∷ []))) columns) h.own_is;
        leads_all = a.leads_all;
        sets_all = a.sets_all;
        built = placed_as tables texts ps behind columns m are (λ (l : List Known) (rs : List Reader) (x : ℕ). AreCourses l rs x e.building h.builds h.builds_own) h.built;
        taken = taking_as guard _ _ _ (gathering_of e.taking.entry e.taking.operators G) e.taking G h.fields h.takes h.takes_own refl refl
            (placed_as tables texts ps behind columns m are (λ (l : List Known) (rs : List Reader) (x : ℕ). IsTakingBy guard l rs (x + length h.builds_own) (gathering_of e.taking.entry e.taking.operators G) G h.fields h.takes h.takes_own) h.taken);
        field_kinds = h.field_kinds;
        made = subst (λ (t : ℕ). IsOneRow (InSink (pipeline_of behind).operators (pipeline_of behind).sink) (literals_by tables (length columns) texts (ps ++ behind ∷ [])) (directory t) (own_start tables (literal_locals texts (ps ++ behind ∷ [])) (length columns) + length h.builds_own + length h.takes_own) values h.one h.one_own) e.table_is
            (placed_as tables texts ps behind columns m are (λ (l : List Known) (rs : List Reader) (x : ℕ). IsOneRow (InSink (pipeline_of behind).operators (pipeline_of behind).sink) l (directory G.table) (x + length h.builds_own + length h.takes_own) values h.one h.one_own) h.made);
        columns_are = ap (λ (l : Layout). l.columns) a.layout_is;
        octets_are = ap (λ (l : Layout). l.literals) a.layout_is;
        kinds_are = ap (λ (l : Layout). map (λ (k : Kind). Some k) l.cells) a.layout_is ∙ h.kinds_are;
        utf8 = a.utf8;
      },
    )

-- ---- the pipelines taken apart
pub single_parts_emitted : (all : List Pipeline) (values : List ValueColumn) (m : LastGroup) → IsLastGroup all 0 values m → (p : Places) (first : ℕ) (behind : physical.Pipeline) (code : List LowStep) (own : List ValType) (kinds : List Kind) →
    EmitsSingle m.guard p first (map pipeline_of m.builders.items) m.entry (map operator_of m.operators.items) (group_of m.group) values behind code own kinds → EmitsSingleParts p first (map pipeline_of all) values behind code own kinds
single_parts_emitted all values m is p first behind code own kinds e = record {
  building = map pipeline_of m.builders.items;
  taking = pipeline_of is.last;
  pipelines_are = apart all 0 values m is;
  group = group_of m.group;
  table_is = is.table_is ∙ sym (length-map m.builders.items pipeline_of);
  no_columns = is.columns_are;
  functions_are = is.functions_are;
  values_are = ap sink_of is.selects;
  emitted = as_last all 0 values m is (λ (guard : Option ℕ) (entry : ℕ) (os : List physical.Operator). EmitsSingle guard p first (map pipeline_of m.builders.items) entry os (group_of m.group) values behind code own kinds) e;
}
