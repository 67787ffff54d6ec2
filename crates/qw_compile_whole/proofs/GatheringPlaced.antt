-- What the emission of a pipeline whose rows go into groups asks for, and what it leaves; and so the walk over the groups.
use Rattle.std.proofs.Common.{◌≡◌, ℕ, ◌+◌, ◌≤◌, Option, Some, None, List, [], ◌++◌, length, length-append, map, slice_get, refl, sym, ap, ◌∙◌, subst, append_assoc, append-nil, arith}
use Rattle.qw_module.specs.declared.instruction.ValType.{ValType}
use Rattle.qw_types.specs.declared.kind.Kind.{Kind}
use Rattle.qw_scalar.specs.Expression.{scale_of}
use Rattle.qw_scalar.specs.Typing.{kind_of}
use Rattle.qw_leaves.proofs.LeafLists.{all_front}
use Rattle.qw_low.specs.declared.step.LowStep.{LowStep}
use Rattle.qw_low.specs.Steps.{steps_of}
use Rattle.qw_low.specs.Syntax.{Statement}
use Rattle.qw_feed.specs.Cells.{kinds_of}
use Rattle.qw_feed.specs.Rows.{begin_block, finish_block}
use Rattle.qw_expr.specs.Bindings.{IsServed}
use Rattle.qw_expr.specs.Cells.{IsBelow}
use Rattle.qw_expr.specs.Computes.{Known}
use Rattle.qw_expr.specs.Emits.{free_of}
use Rattle.qw_expr.specs.declared.emitter.Emitter.{Emitter}
use Rattle.qw_expr.proofs.Nulls.{known_below_more}
use Rattle.qw_read.specs.Reading.{known_of, BeginsAll}
use Rattle.qw_read.specs.declared.reader.Reader.{Reader}
use Rattle.qw_table.specs.Joins.{sources_of}
use Rattle.qw_table.specs.Tables.{directory_block}
use Rattle.qw_table.specs.declared.key.Field.{Field}
use Rattle.qw_physical.specs.Physical.{Operator, Pipeline, Sink}
use Rattle.qw_physical.specs.declared.pipeline.ReadColumn.{ReadColumn}
use Rattle.qw_operator.specs.Carries.{EmitsRow, directory, result_kinds}
use Rattle.qw_operator.specs.Grouping.{Group, IsGrouped}
use Rattle.qw_operator.specs.Puts.{IsGroupedWithin}
use Rattle.qw_operator.proofs.Unguarded.{row_map, unguarded}
use Rattle.qw_group_pipeline.specs.Groups.{EmitsGroups, IsGroupPipeline}
use Rattle.qw_group_pipeline.specs.declared.columns.ValueColumn.{ValueColumn}
use Rattle.qw_compile.specs.Placed.{ArePlaced, EmitsBuilds, literals_placed}
use Rattle.qw_compile.specs.QueryLocals.{readers_over}
use Rattle.qw_compile.specs.Statements.{AreCourses, Course, build_block, builds_block, course_block}
use Rattle.qw_compile.specs.declared.courses.Places.{Places}
use Rattle.qw_compile_whole.specs.GroupedPlaced.{EmitsFront, EmitsGathering, EmitsGrouped, EmitsWalk, gathering_of}
use Rattle.qw_compile_whole.specs.GroupedStatements.{IsGatheringTo}
use Rattle.qw_compile_whole.specs.GuardedStatements.{IsGatheringBy, count_from, gather_block, stop_at}
use Rattle.qw_compile_whole.proofs.ScanPlaced.{behind_none, free_at, scan_as, scan_placed}

-- ---- the scan
abbrev pub End : (guard : Option ℕ) → List Field → Group → List Known → (next : ℕ) → Statement → List ValType → Type 0
End guard fields g = λ known at a more. IsGroupedWithin guard fields known at g a more

-- whatever is innermost
module _ (guard : Option ℕ) (E : List Known → (next : ℕ) → Statement → List ValType → Type 0) (p : Places) (first entry : ℕ) (operators : List Operator) (g : Group) (fields : List Field) (old new : List LowStep) (own_old own_new : List ValType) (e0 e1 : Emitter) (head : Reader) (begins : Statement) where
  emitted_by : ((c : Course) (own : List ValType) → IsGatheringTo E (literals_placed p) p.readers.items (first + length own_old) (gathering_of entry operators g) c own → IsGatheringBy guard (literals_placed p) p.readers.items (first + length own_old) (gathering_of entry operators g) g fields c own) →
      e0.first ≡ first + length own_old → e0.block.code.items ≡ [] → e0.own.items ≡ [] → EmitsRow E (literals_placed p) (readers_over entry p.readers.items) operators e0 e1 → kinds_of (sources_of fields) ≡ map kind_of g.values →
      slice_get (readers_over entry p.readers.items) 0 ≡ Some head → BeginsAll (readers_over entry p.readers.items) begins →
      ((a : Statement) → e1.block.code.items ≡ steps_of a → new ≡ old ++ steps_of (course_block p.tables (record { index = head.index; begins = begins; row = a }))) → own_new ≡ own_old ++ e1.own.items → EmitsGathering guard p first entry operators g old new own_old own_new
  emitted_by is_by first_is code0 own0 e kinds head_is all coded own_is = record {
    course = record { index = head.index; begins = begins; row = e.statement };
    fields = fields;
    own = e.own;
    code_is = coded e.statement (e.code_is ∙ ap (λ (l : List LowStep). l ++ steps_of e.statement) code0);
    own_is = behind_none own_old own_new e0.own.items e1.own.items e.own own_is e.own_is own0;
    kinds = kinds;
    is = is_by (record { index = head.index; begins = begins; row = e.statement }) e.own (scan_placed E p first entry operators g own_old e0 e1 head begins first_is own0 e head_is all);
  }

pub gathering_emitted : (guard : Option ℕ) (p : Places) (first entry : ℕ) (operators : List Operator) (g : Group) (fields : List Field) (old new : List LowStep) (own_old own_new : List ValType) (e0 e1 : Emitter) (head : Reader) (begins : Statement) → e0.first ≡ first + length own_old →
    e0.block.code.items ≡ [] → e0.own.items ≡ [] → EmitsRow (End guard fields g) (literals_placed p) (readers_over entry p.readers.items) operators e0 e1 → kinds_of (sources_of fields) ≡ map kind_of g.values →
    slice_get (readers_over entry p.readers.items) 0 ≡ Some head → BeginsAll (readers_over entry p.readers.items) begins →
    ((a : Statement) → e1.block.code.items ≡ steps_of a → new ≡ old ++ steps_of (course_block p.tables (record { index = head.index; begins = begins; row = a }))) → own_new ≡ own_old ++ e1.own.items → EmitsGathering guard p first entry operators g old new own_old own_new
gathering_emitted None p first entry operators g fields old new own_old own_new e0 e1 head begins first_is code0 own0 e kinds head_is all coded own_is =
    emitted_by None (λ known at a more. IsGrouped fields known at g a more) p first entry operators g fields old new own_old own_new e0 e1 head begins (λ c own h. h) first_is code0 own0
    (row_map (End None fields g) (λ known at a more. IsGrouped fields known at g a more) (λ known at a more h. unguarded fields known at g a more h) (literals_placed p) (readers_over entry p.readers.items) operators e0 e1 e) kinds head_is all coded own_is
gathering_emitted (Some z) p first entry operators g fields old new own_old own_new e0 e1 head begins first_is code0 own0 e kinds head_is all coded own_is =
    emitted_by (Some z) (End (Some z) fields g) p first entry operators g fields old new own_old own_new e0 e1 head begins (λ c own h. h) first_is code0 own0 e kinds head_is all coded own_is

-- what its blocks are doesn't depend on its sink
pub gathering_as : (guard : Option ℕ) (literals : List Known) (readers : List Reader) (next : ℕ) (p q : Pipeline) (g : Group) (fields : List Field) (c : Course) (own : List ValType) → p.entry ≡ q.entry → p.operators ≡ q.operators → IsGatheringBy guard literals readers next p g fields c own →
    IsGatheringBy guard literals readers next q g fields c own
gathering_as None literals readers next p q g fields c own one two h = scan_as (λ known at a more. IsGrouped fields known at g a more) literals readers next p q c own one two h
gathering_as (Some z) literals readers next p q g fields c own one two h = scan_as (End (Some z) fields g) literals readers next p q c own one two h

-- ---- the walk
-- literals are below the locals of a pipeline
pub literals_served : (p : Places) (first n : ℕ) → ArePlaced p first → first ≤ n → IsServed n (literals_placed p)
literals_served p first n placed high =
    let all = map known_of p.readers.items in
    let Low : Known → Type 0 = λ (k : Known). IsBelow n k.operand.cell in
    let Described : Known → Type 0 = λ (k : Known). (k.operand.kind ≡ kind_of k.expression) × (k.operand.scale ≡ scale_of k.expression) in
    let below = known_below_more first n (literals_placed p ++ all) high placed.served.0 in
    (all_front Low (literals_placed p) all below, all_front Described (literals_placed p) all placed.served.1)

pub walk_emitted : (p : Places) (first table d : ℕ) (known : List Known) (key : List ReadColumn) (values : List ValueColumn) (behind : Pipeline) (operators : List Operator) (snk : Sink) (old new : List LowStep) (own_old own_new : List ValType) (e0 e1 : Emitter) →
    d ≡ directory table → known ≡ literals_placed p → operators ≡ behind.operators → snk ≡ behind.sink → e0.first ≡ first + length own_old → e0.block.code.items ≡ [] → e0.own.items ≡ [] → EmitsGroups known d key values operators snk e0 e1 →
    new ≡ old ++ e1.block.code.items → own_new ≡ own_old ++ e1.own.items → EmitsWalk p first table key values behind old new own_old own_new
walk_emitted p first table d known key values behind operators snk old new own_old own_new e0 e1 d_is known_is operators_are sink_is first_is code0 own0 e code_is own_is =
    record {
      walk = e.statement;
      own = e.own;
      code_is = behind_none old new e0.block.code.items e1.block.code.items (steps_of e.statement) code_is e.code_is code0;
      own_is = behind_none own_old own_new e0.own.items e1.own.items e.own own_is e.own_is own0;
      is = subst (λ (n : ℕ). IsGroupPipeline (literals_placed p) (directory table) n key values behind.operators behind.sink e.statement e.own) (free_at e0 first own_old first_is own0)
          (subst (λ (s : Sink). IsGroupPipeline (literals_placed p) (directory table) (free_of e0) key values behind.operators s e.statement e.own) sink_is
          (subst (λ (os : List Operator). IsGroupPipeline (literals_placed p) (directory table) (free_of e0) key values os snk e.statement e.own) operators_are
          (subst (λ (ks : List Known). IsGroupPipeline ks (directory table) (free_of e0) key values operators snk e.statement e.own) known_is
          (subst (λ (n : ℕ). IsGroupPipeline known n (free_of e0) key values operators snk e.statement e.own) d_is e.pipeline))));
    }

-- ---- all of them
-- the steps of a scan that is counted, or not
gather_steps : (guard : Option ℕ) (t n : ℕ) (c : Course) → steps_of (gather_block guard t n c) ≡ steps_of (count_from guard) ++ (steps_of (build_block t n c) ++ steps_of (stop_at guard))
gather_steps None t n c = sym (append-nil (steps_of (build_block t n c)))
gather_steps (Some z) t n c = refl

pub front_chained : (b l d c s c1 c2 c3 c4 c5 : List LowStep) → c1 ≡ b → c2 ≡ c1 ++ l → c3 ≡ c2 ++ d → c4 ≡ c3 ++ c → c5 ≡ c4 ++ s → c5 ≡ b ++ (l ++ ((d ++ c) ++ s))
front_chained b l d c s c1 c2 c3 c4 c5 one two three four five = simp (five, four, three, two, one, append_assoc)

pub front_emitted : (guard : Option ℕ) (p : Places) (first : ℕ) (building : List Pipeline) (entry : ℕ) (operators : List Operator) (g : Group) (code1 code2 code3 code4 code5 : List LowStep) (own1 own2 : List ValType) →
    EmitsBuilds p first building [] code1 [] own1 → code2 ≡ code1 ++ steps_of (count_from guard) → code3 ≡ code2 ++ steps_of (directory_block (directory g.table)) → EmitsGathering guard p first entry operators g code3 code4 own1 own2 → code5 ≡ code4 ++ steps_of (stop_at guard) →
    EmitsFront guard p first building entry operators g code5 own2
front_emitted guard p first building entry operators g code1 code2 code3 code4 code5 own1 own2 b counted directed e stopped = record {
  builds = b.courses;
  gathers = e.course;
  fields = e.fields;
  builds_own = b.own;
  gathers_own = e.own;
  code_is =
      front_chained (steps_of (builds_block p.tables 0 b.courses)) (steps_of (count_from guard)) (steps_of (directory_block (directory g.table))) (steps_of (course_block p.tables e.course)) (steps_of (stop_at guard))
      code1 code2 code3 code4 code5 b.code_is counted directed e.code_is stopped
      ∙ ap (λ (l : List LowStep). steps_of (builds_block p.tables 0 b.courses) ++ l) (sym (gather_steps guard p.tables g.table e.course));
  own_is = e.own_is ∙ ap (λ (l : List ValType). l ++ e.own) b.own_is;
  built = let none : first + length {A = ValType} [] ≡ first = omega arith in subst (λ (n : ℕ). AreCourses (literals_placed p) p.readers.items n building b.courses b.own) none b.are;
  gathered = subst (λ (l : List ValType). IsGatheringBy guard (literals_placed p) p.readers.items (first + length l) (gathering_of entry operators g) g e.fields e.course e.own) b.own_is e.is;
  field_kinds = e.kinds;
}

walk_chained : (b g h w f c1 c2 c3 c4 : List LowStep) → c1 ≡ b ++ g → c2 ≡ c1 ++ h → c3 ≡ c2 ++ w → c4 ≡ c3 ++ f → c4 ≡ b ++ (g ++ (h ++ (w ++ f)))
walk_chained b g h w f c1 c2 c3 c4 one two three four = simp (four, three, two, one, append_assoc)

pub grouped_emitted : (guard : Option ℕ) (p : Places) (first : ℕ) (building : List Pipeline) (entry : ℕ) (operators : List Operator) (g : Group) (key : List ReadColumn) (values : List ValueColumn) (behind : Pipeline) (code1 code2 code3 code4 : List LowStep) (own1 own2 : List ValType) (kinds : List Kind) →
    EmitsFront guard p first building entry operators g code1 own1 → code2 ≡ code1 ++ steps_of begin_block → EmitsWalk p first g.table key values behind code2 code3 own1 own2 → code4 ≡ code3 ++ steps_of finish_block → map Some kinds ≡ result_kinds behind.sink → EmitsGrouped guard p first building entry operators g key values behind code4 own2 kinds
grouped_emitted guard p first building entry operators g key values behind code1 code2 code3 code4 own1 own2 kinds b begun w finished kinds_are = record {
  builds = b.builds;
  gathers = b.gathers;
  walk = w.walk;
  fields = b.fields;
  builds_own = b.builds_own;
  gathers_own = b.gathers_own;
  walk_own = w.own;
  code_is = walk_chained (steps_of (builds_block p.tables 0 b.builds)) (steps_of (gather_block guard p.tables g.table b.gathers)) (steps_of begin_block) (steps_of w.walk) (steps_of finish_block) code1 code2 code3 code4 b.code_is begun w.code_is finished;
  own_is = w.own_is ∙ (ap (λ (l : List ValType). l ++ w.own) b.own_is ∙ append_assoc b.builds_own b.gathers_own w.own);
  built = b.built;
  gathered = b.gathered;
  field_kinds = b.field_kinds;
  walked =
      let place : first + length own1 ≡ first + length b.builds_own + length b.gathers_own = (let one = ap (λ (l : List ValType). length l) b.own_is ∙ length-append b.builds_own b.gathers_own in omega (arith, one)) in
      subst (λ (n : ℕ). IsGroupPipeline (literals_placed p) (directory g.table) n key values behind.operators behind.sink w.walk w.own) place w.is;
  kinds_are = kinds_are;
}
