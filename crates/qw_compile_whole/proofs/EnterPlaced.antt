-- What the emission of a grouped query with DISTINCT leaves: the walk over its groups into the second table, and the whole.
use Rattle.std.proofs.Common.{◌≡◌, ℕ, ◌+◌, ◌*◌, ◌≤◌, Option, Some, List, [], ◌++◌, length, length-append, map, ap, ◌∙◌, subst, append_assoc, arith}
use Rattle.qw_module.specs.declared.instruction.ValType.{ValType}
use Rattle.qw_types.specs.declared.kind.Kind.{Kind}
use Rattle.qw_scalar.specs.Typing.{kind_of}
use Rattle.qw_low.specs.declared.step.LowStep.{LowStep}
use Rattle.qw_low.specs.Steps.{steps_of}
use Rattle.qw_feed.specs.Cells.{kinds_of}
use Rattle.qw_feed.specs.Rows.{begin_block, finish_block}
use Rattle.qw_expr.specs.Computes.{Known}
use Rattle.qw_expr.specs.Emits.{extent, free_of}
use Rattle.qw_expr.specs.declared.emitter.Emitter.{Emitter}
use Rattle.qw_table.specs.Joins.{sources_of}
use Rattle.qw_table.specs.Tables.{directory_block}
use Rattle.qw_table.specs.declared.key.Field.{Field}
use Rattle.qw_physical.specs.Physical.{Operator, Pipeline}
use Rattle.qw_physical.specs.declared.pipeline.Operator as coded_operator
use Rattle.qw_physical.specs.declared.pipeline.ReadColumn.{ReadColumn}
use Rattle.qw_operator.specs.Carries.{directory, result_kinds}
use Rattle.qw_operator.specs.Span.{span}
use Rattle.qw_operator.specs.Grouping.{Group, group_span}
use Rattle.qw_operator.specs.declared.group.Group as coded
use Rattle.qw_group_pipeline.specs.Groups.{EmitsGroupsTo, Grouping, InEnd, IsGroupPipeline, IsGroupPipelineTo}
use Rattle.qw_group_pipeline.specs.declared.columns.ValueColumn.{ValueColumn}
use Rattle.qw_compile.specs.Placed.{literals_placed}
use Rattle.qw_compile.specs.Statements.{builds_block}
use Rattle.qw_compile.specs.declared.courses.Places.{Places}
use Rattle.qw_compile_whole.specs.DistinctPlaced.{EmitsDistinct, EmitsEnter}
use Rattle.qw_compile_whole.specs.GroupedDistinctLimits.{enter_span}
use Rattle.qw_compile_whole.specs.GroupedPlaced.{EmitsFront, EmitsWalk}
use Rattle.qw_compile_whole.specs.GuardedStatements.{gather_block}
use Rattle.qw_compile_whole.proofs.GatheringLengths.{added_short}
use Rattle.qw_compile_whole.proofs.ScanPlaced.{behind_none, free_at}

-- ---- the walk into the second table
pub enter_emitted : (p : Places) (first table d : ℕ) (known : List Known) (key : List ReadColumn) (values : List ValueColumn) (steps operators : List Operator) (into : Group) (fields : List Field) (old new : List LowStep) (own_old own_new : List ValType) (e0 e1 : Emitter) →
    d ≡ directory table → known ≡ literals_placed p → steps ≡ operators → e0.first ≡ first + length own_old → e0.block.code.items ≡ [] → e0.own.items ≡ [] → EmitsGroupsTo (InEnd (Grouping fields into) steps) known d key values e0 e1 → kinds_of (sources_of fields) ≡ map kind_of into.values →
    new ≡ old ++ e1.block.code.items → own_new ≡ own_old ++ e1.own.items → EmitsEnter p first table key values operators into old new own_old own_new
enter_emitted p first table d known key values steps operators into fields old new own_old own_new e0 e1 d_is known_is steps_are first_is code0 own0 e kinds code_is own_is =
    record {
      enters = e.statement;
      fields = fields;
      own = e.own;
      code_is = behind_none old new e0.block.code.items e1.block.code.items (steps_of e.statement) code_is e.code_is code0;
      own_is = behind_none own_old own_new e0.own.items e1.own.items e.own own_is e.own_is own0;
      kinds = kinds;
      is = subst (λ (n : ℕ). IsGroupPipelineTo (InEnd (Grouping fields into) operators) (literals_placed p) (directory table) n key values e.statement e.own) (free_at e0 first own_old first_is own0)
          (subst (λ (os : List Operator). IsGroupPipelineTo (InEnd (Grouping fields into) os) (literals_placed p) (directory table) (free_of e0) key values e.statement e.own) steps_are
          (subst (λ (ks : List Known). IsGroupPipelineTo (InEnd (Grouping fields into) steps) ks (directory table) (free_of e0) key values e.statement e.own) known_is
          (subst (λ (n : ℕ). IsGroupPipelineTo (InEnd (Grouping fields into) steps) known n (free_of e0) key values e.statement e.own) d_is e.pipeline)));
    }

pub enter_short : (columns functions : ℕ) (operators : List coded_operator.Operator) (into : coded.Group) (old new : List LowStep) (own_old own_new : List ValType) (e0 e1 : Emitter) → e0.block.code.items ≡ [] → e0.own.items ≡ [] → new ≡ old ++ e1.block.code.items → own_new ≡ own_old ++ e1.own.items →
    extent e1 ≤ extent e0 + (25 * columns + 328 * functions + span operators (group_span into) + 60) → length new + length own_new + 40 ≤ length old + length own_old + enter_span columns functions operators into
enter_short columns functions operators into old new own_old own_new e0 e1 code0 own0 code own short =
    let all = added_short old new own_old own_new e0 e1 (25 * columns + 328 * functions + span operators (group_span into) + 60) code0 own0 code own short in
    omega (arith, all)

-- ---- all of it
whole_chained : (b g d e h w f c1 c2 c3 c4 c5 c6 : List LowStep) → c1 ≡ b ++ g → c2 ≡ c1 ++ d → c3 ≡ c2 ++ e → c4 ≡ c3 ++ h → c5 ≡ c4 ++ w → c6 ≡ c5 ++ f → c6 ≡ b ++ (g ++ (d ++ (e ++ (h ++ (w ++ f)))))
whole_chained b g d e h w f c1 c2 c3 c4 c5 c6 one two three four five six = simp (six, five, four, three, two, one, append_assoc)

pub distinct_emitted : (guard : Option ℕ) (p : Places) (first : ℕ) (building : List Pipeline) (entry : ℕ) (operators : List Operator) (g : Group) (key : List ReadColumn) (values : List ValueColumn) (behind : List Operator) (into : Group) (key_again : List ReadColumn) (values_again : List ValueColumn) (again : Pipeline)
    (code1 code2 code3 code4 code5 code6 : List LowStep) (own1 own2 own3 : List ValType) (kinds : List Kind) → EmitsFront guard p first building entry operators g code1 own1 → code2 ≡ code1 ++ steps_of (directory_block (directory into.table)) → EmitsEnter p first g.table key values behind into code2 code3 own1 own2 →
    code4 ≡ code3 ++ steps_of begin_block → EmitsWalk p first into.table key_again values_again again code4 code5 own2 own3 → code6 ≡ code5 ++ steps_of finish_block → map (λ (k : Kind). Some k) kinds ≡ result_kinds again.sink →
    EmitsDistinct guard p first building entry operators g key values behind into key_again values_again again code6 own3 kinds
distinct_emitted guard p first building entry operators g key values behind into key_again values_again again code1 code2 code3 code4 code5 code6 own1 own2 own3 kinds b directed e begun w finished kinds_are =
    let place : first + length own1 ≡ first + length b.builds_own + length b.gathers_own = (let one = ap (λ (l : List ValType). length l) b.own_is ∙ length-append b.builds_own b.gathers_own in omega (arith, one)) in
    let further : first + length own2 ≡ first + length b.builds_own + length b.gathers_own + length e.own = (let two = ap (λ (l : List ValType). length l) e.own_is ∙ length-append own1 e.own in omega (arith, two, place)) in
    record {
      builds = b.builds;
      gathers = b.gathers;
      enters = e.enters;
      walk = w.walk;
      fields = b.fields;
      into_fields = e.fields;
      builds_own = b.builds_own;
      gathers_own = b.gathers_own;
      enters_own = e.own;
      walk_own = w.own;
      code_is =
          whole_chained (steps_of (builds_block p.tables 0 b.builds)) (steps_of (gather_block guard p.tables g.table b.gathers)) (steps_of (directory_block (directory into.table))) (steps_of e.enters) (steps_of begin_block) (steps_of w.walk) (steps_of finish_block)
          code1 code2 code3 code4 code5 code6 b.code_is directed e.code_is begun w.code_is finished;
      own_is =
          w.own_is ∙ (ap (λ (l : List ValType). l ++ w.own) (e.own_is ∙ ap (λ (l : List ValType). l ++ e.own) b.own_is)
          ∙ (append_assoc (b.builds_own ++ b.gathers_own) e.own w.own ∙ append_assoc b.builds_own b.gathers_own (e.own ++ w.own)));
      built = b.built;
      gathered = b.gathered;
      field_kinds = b.field_kinds;
      entered = subst (λ (n : ℕ). IsGroupPipelineTo (InEnd (Grouping e.fields into) behind) (literals_placed p) (directory g.table) n key values e.enters e.own) place e.is;
      into_kinds = e.kinds;
      walked = subst (λ (n : ℕ). IsGroupPipeline (literals_placed p) (directory into.table) n key_again values_again again.operators again.sink w.walk w.own) further w.is;
      kinds_are = kinds_are;
    }

pub distinct_short : (front enters walks table : ℕ) (code1 code2 code3 code4 code5 code6 : List LowStep) (own1 own2 own3 : List ValType) → length code1 + length own1 ≤ front → code2 ≡ code1 ++ steps_of (directory_block (directory table)) → length code3 + length own2 + 40 ≤ length code2 + length own1 + enters →
    code4 ≡ code3 ++ steps_of begin_block → length code5 + length own3 + 40 ≤ length code4 + length own2 + walks → code6 ≡ code5 ++ steps_of finish_block → length code6 + length own3 ≤ front + enters + walks
distinct_short front enters walks table code1 code2 code3 code4 code5 code6 own1 own2 own3 before directed entered begun walked finished =
    let two = ap (λ (l : List LowStep). length l) directed ∙ length-append code1 (steps_of (directory_block (directory table))) in
    let four = ap (λ (l : List LowStep). length l) begun ∙ length-append code3 (steps_of begin_block) in
    let six = ap (λ (l : List LowStep). length l) finished ∙ length-append code5 (steps_of finish_block) in
    omega (arith, two, four, six, before, entered, walked)
