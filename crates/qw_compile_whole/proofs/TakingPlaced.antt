-- What the emission of a pipeline leaves whose rows the areas of set functions take; and so that of the row of the one group.
use Rattle.std.proofs.Common.{◌≡◌, ℕ, ◌+◌, ◌*◌, Option, None, Some, List, [], ◌++◌, length, length-append, map, slice_get, refl, ap, ◌∙◌, subst, append_assoc, append-nil, arith, sym}
use Rattle.qw_module.specs.declared.instruction.ValType.{ValType}
use Rattle.qw_types.specs.declared.kind.Kind.{Kind}
use Rattle.qw_scalar.specs.Typing.{kind_of}
use Rattle.qw_low.specs.declared.step.LowStep.{LowStep}
use Rattle.qw_low.specs.Steps.{steps_of}
use Rattle.qw_low.specs.Syntax.{Statement}
use Rattle.qw_feed.specs.Cells.{kinds_of}
use Rattle.qw_feed.specs.Rows.{begin_block, finish_block}
use Rattle.qw_expr.specs.Computes.{Known}
use Rattle.qw_expr.specs.Emits.{free_of}
use Rattle.qw_expr.specs.declared.emitter.Emitter.{Emitter}
use Rattle.qw_read.specs.Reading.{BeginsAll}
use Rattle.qw_read.specs.declared.reader.Reader.{Reader}
use Rattle.qw_table.specs.Joins.{sources_of}
use Rattle.qw_table.specs.declared.key.Field.{Field}
use Rattle.qw_group.specs.Single.{single_block}
use Rattle.qw_physical.specs.Physical.{Operator, Pipeline, Sink}
use Rattle.qw_operator.specs.Carries.{EmitsRow, directory, result_kinds}
use Rattle.qw_operator.specs.Grouping.{Group}
use Rattle.qw_operator.specs.Puts.{IsOneGroupWithin}
use Rattle.qw_operator.specs.OneGroup.{IsOneGroup}
use Rattle.qw_operator.proofs.Unguarded.{row_map, unguarded_one}
use Rattle.qw_group_pipeline.specs.Groups.{EmitsOneTo, InSink, IsOneRow}
use Rattle.qw_group_pipeline.specs.declared.columns.ValueColumn.{ValueColumn}
use Rattle.qw_compile.specs.Placed.{EmitsBuilds, literals_placed}
use Rattle.qw_compile.specs.QueryLocals.{readers_over}
use Rattle.qw_compile.specs.Statements.{AreCourses, Course, builds_block, course_block}
use Rattle.qw_compile.specs.declared.courses.Places.{Places}
use Rattle.qw_compile_whole.specs.GroupedPlaced.{gathering_of}
use Rattle.qw_compile_whole.specs.GroupedStatements.{IsGatheringTo}
use Rattle.qw_compile_whole.specs.GuardedSingles.{IsTakingBy, take_block_by}
use Rattle.qw_compile_whole.specs.GuardedStatements.{count_from, stop_at}
use Rattle.qw_compile_whole.specs.SinglePlaced.{EmitsOne, EmitsSingle, EmitsTaking}
use Rattle.qw_compile_whole.specs.SingleStatements.{take_block}
use Rattle.qw_compile_whole.proofs.GatheringPlaced.{front_chained}
use Rattle.qw_compile_whole.proofs.ScanPlaced.{behind_none, free_at, scan_as, scan_placed}

-- ---- the scan
abbrev pub End : (guard : Option ℕ) → List Field → Group → List Known → (next : ℕ) → Statement → List ValType → Type 0
End guard fields g = λ known at a more. IsOneGroupWithin guard fields known at g a more

-- its steps, with those that count around them
take_steps : (guard : Option ℕ) (t n f : ℕ) (c : Course) → steps_of (take_block_by guard t n f c) ≡ steps_of (count_from guard) ++ ((steps_of (single_block (32 * f) (directory n)) ++ steps_of (course_block t c)) ++ steps_of (stop_at guard))
take_steps None t n f c = sym (append-nil (steps_of (take_block t n f c)))
take_steps (Some z) t n f c = refl

taken_code : (guard : Option ℕ) (t n f : ℕ) (c : Course) (old code1 code2 code3 code4 : List LowStep) → code1 ≡ old ++ steps_of (count_from guard) → code2 ≡ code1 ++ steps_of (single_block (32 * f) (directory n)) → code3 ≡ code2 ++ steps_of (course_block t c) →
    code4 ≡ code3 ++ steps_of (stop_at guard) → code4 ≡ old ++ steps_of (take_block_by guard t n f c)
taken_code guard t n f c old code1 code2 code3 code4 one two three four =
    front_chained old (steps_of (count_from guard)) (steps_of (single_block (32 * f) (directory n))) (steps_of (course_block t c)) (steps_of (stop_at guard)) old code1 code2 code3 code4 refl one two three four
    ∙ ap (λ (l : List LowStep). old ++ l) (sym (take_steps guard t n f c))

-- whatever is innermost
module _ (guard : Option ℕ) (E : List Known → (next : ℕ) → Statement → List ValType → Type 0) (p : Places) (first entry : ℕ) (operators : List Operator) (g : Group) (fields : List Field) (old counted placed scanned new : List LowStep) (own_old own_new : List ValType) (e0 e1 : Emitter) (head : Reader) (begins : Statement) where
  emitted_by : ((c : Course) (own : List ValType) → IsGatheringTo E (literals_placed p) p.readers.items (first + length own_old) (gathering_of entry operators g) c own → IsTakingBy guard (literals_placed p) p.readers.items (first + length own_old) (gathering_of entry operators g) g fields c own) →
      e0.first ≡ first + length own_old → e0.block.code.items ≡ [] → e0.own.items ≡ [] → EmitsRow E (literals_placed p) (readers_over entry p.readers.items) operators e0 e1 → kinds_of (sources_of fields) ≡ map kind_of g.values → counted ≡ old ++ steps_of (count_from guard) →
      placed ≡ counted ++ steps_of (single_block (32 * length g.functions) (directory g.table)) → slice_get (readers_over entry p.readers.items) 0 ≡ Some head → BeginsAll (readers_over entry p.readers.items) begins →
      ((a : Statement) → e1.block.code.items ≡ steps_of a → scanned ≡ placed ++ steps_of (course_block p.tables (record { index = head.index; begins = begins; row = a }))) → new ≡ scanned ++ steps_of (stop_at guard) → own_new ≡ own_old ++ e1.own.items → EmitsTaking guard p first entry operators g old new own_old own_new
  emitted_by is_by first_is code0 own0 e kinds counted_is placed_is head_is all coded stopped own_is = record {
    course = record { index = head.index; begins = begins; row = e.statement };
    fields = fields;
    own = e.own;
    code_is = taken_code guard p.tables g.table (length g.functions) (record { index = head.index; begins = begins; row = e.statement }) old counted placed scanned new counted_is placed_is (coded e.statement (e.code_is ∙ ap (λ (l : List LowStep). l ++ steps_of e.statement) code0)) stopped;
    own_is = behind_none own_old own_new e0.own.items e1.own.items e.own own_is e.own_is own0;
    kinds = kinds;
    is = is_by (record { index = head.index; begins = begins; row = e.statement }) e.own (scan_placed E p first entry operators g own_old e0 e1 head begins first_is own0 e head_is all);
  }

pub taking_emitted : (guard : Option ℕ) (p : Places) (first entry : ℕ) (operators : List Operator) (g : Group) (fields : List Field) (old counted placed scanned new : List LowStep) (own_old own_new : List ValType) (e0 e1 : Emitter) (head : Reader) (begins : Statement) → e0.first ≡ first + length own_old →
    e0.block.code.items ≡ [] → e0.own.items ≡ [] → EmitsRow (End guard fields g) (literals_placed p) (readers_over entry p.readers.items) operators e0 e1 → kinds_of (sources_of fields) ≡ map kind_of g.values → counted ≡ old ++ steps_of (count_from guard) →
    placed ≡ counted ++ steps_of (single_block (32 * length g.functions) (directory g.table)) → slice_get (readers_over entry p.readers.items) 0 ≡ Some head → BeginsAll (readers_over entry p.readers.items) begins →
    ((a : Statement) → e1.block.code.items ≡ steps_of a → scanned ≡ placed ++ steps_of (course_block p.tables (record { index = head.index; begins = begins; row = a }))) → new ≡ scanned ++ steps_of (stop_at guard) → own_new ≡ own_old ++ e1.own.items → EmitsTaking guard p first entry operators g old new own_old own_new
taking_emitted None p first entry operators g fields old counted placed scanned new own_old own_new e0 e1 head begins first_is code0 own0 e kinds counted_is placed_is head_is all coded stopped own_is =
    emitted_by None (λ known at a more. IsOneGroup fields known at g a more) p first entry operators g fields old counted placed scanned new own_old own_new e0 e1 head begins (λ c own h. h) first_is code0 own0
    (row_map (End None fields g) (λ known at a more. IsOneGroup fields known at g a more) (λ known at a more h. unguarded_one fields known at g a more h) (literals_placed p) (readers_over entry p.readers.items) operators e0 e1 e) kinds counted_is placed_is head_is all coded stopped own_is
taking_emitted (Some z) p first entry operators g fields old counted placed scanned new own_old own_new e0 e1 head begins first_is code0 own0 e kinds counted_is placed_is head_is all coded stopped own_is =
    emitted_by (Some z) (End (Some z) fields g) p first entry operators g fields old counted placed scanned new own_old own_new e0 e1 head begins (λ c own h. h) first_is code0 own0 e kinds counted_is placed_is head_is all coded stopped own_is

-- what its blocks are doesn't depend on its sink
pub taking_as : (guard : Option ℕ) (literals : List Known) (readers : List Reader) (next : ℕ) (p q : Pipeline) (g : Group) (fields : List Field) (c : Course) (own : List ValType) → p.entry ≡ q.entry → p.operators ≡ q.operators → IsTakingBy guard literals readers next p g fields c own →
    IsTakingBy guard literals readers next q g fields c own
taking_as None literals readers next p q g fields c own one two h = scan_as (λ known at a more. IsOneGroup fields known at g a more) literals readers next p q c own one two h
taking_as (Some z) literals readers next p q g fields c own one two h = scan_as (End (Some z) fields g) literals readers next p q c own one two h

-- ---- the row of the one group
pub one_emitted : (p : Places) (first table d : ℕ) (known : List Known) (values : List ValueColumn) (behind : Pipeline) (operators : List Operator) (snk : Sink) (old new : List LowStep) (own_old own_new : List ValType) (e0 e1 : Emitter) →
    d ≡ directory table → known ≡ literals_placed p → operators ≡ behind.operators → snk ≡ behind.sink → e0.first ≡ first + length own_old → e0.block.code.items ≡ [] → e0.own.items ≡ [] → EmitsOneTo (InSink operators snk) known d values e0 e1 →
    new ≡ old ++ e1.block.code.items → own_new ≡ own_old ++ e1.own.items → EmitsOne p first table values behind old new own_old own_new
one_emitted p first table d known values behind operators snk old new own_old own_new e0 e1 d_is known_is operators_are sink_is first_is code0 own0 e code_is own_is =
    record {
      one = e.statement;
      own = e.own;
      code_is = behind_none old new e0.block.code.items e1.block.code.items (steps_of e.statement) code_is e.code_is code0;
      own_is = behind_none own_old own_new e0.own.items e1.own.items e.own own_is e.own_is own0;
      is = subst (λ (n : ℕ). IsOneRow (InSink behind.operators behind.sink) (literals_placed p) (directory table) n values e.statement e.own) (free_at e0 first own_old first_is own0)
          (subst (λ (s : Sink). IsOneRow (InSink behind.operators s) (literals_placed p) (directory table) (free_of e0) values e.statement e.own) sink_is
          (subst (λ (os : List Operator). IsOneRow (InSink os snk) (literals_placed p) (directory table) (free_of e0) values e.statement e.own) operators_are
          (subst (λ (ks : List Known). IsOneRow (InSink operators snk) ks (directory table) (free_of e0) values e.statement e.own) known_is
          (subst (λ (n : ℕ). IsOneRow (InSink operators snk) known n (free_of e0) values e.statement e.own) d_is e.row))));
    }

-- ---- all of them
chained : (b t g w f c1 c2 c3 c4 c5 : List LowStep) → c1 ≡ b → c2 ≡ c1 ++ t → c3 ≡ c2 ++ g → c4 ≡ c3 ++ w → c5 ≡ c4 ++ f → c5 ≡ b ++ (t ++ (g ++ (w ++ f)))
chained b t g w f c1 c2 c3 c4 c5 one two three four five = simp (five, four, three, two, one, append_assoc)

pub single_emitted : (guard : Option ℕ) (p : Places) (first : ℕ) (building : List Pipeline) (entry : ℕ) (operators : List Operator) (g : Group) (values : List ValueColumn) (behind : Pipeline) (code1 code2 code3 code4 code5 : List LowStep) (own1 own2 own3 : List ValType) (kinds : List Kind) →
    EmitsBuilds p first building [] code1 [] own1 → EmitsTaking guard p first entry operators g code1 code2 own1 own2 → code3 ≡ code2 ++ steps_of begin_block → EmitsOne p first g.table values behind code3 code4 own2 own3 → code5 ≡ code4 ++ steps_of finish_block →
    map Some kinds ≡ result_kinds behind.sink → EmitsSingle guard p first building entry operators g values behind code5 own3 kinds
single_emitted guard p first building entry operators g values behind code1 code2 code3 code4 code5 own1 own2 own3 kinds b e begun w finished kinds_are = record {
  builds = b.courses;
  takes = e.course;
  one = w.one;
  fields = e.fields;
  builds_own = b.own;
  takes_own = e.own;
  one_own = w.own;
  code_is = chained (steps_of (builds_block p.tables 0 b.courses)) (steps_of (take_block_by guard p.tables g.table (length g.functions) e.course)) (steps_of begin_block) (steps_of w.one) (steps_of finish_block) code1 code2 code3 code4 code5 b.code_is e.code_is begun w.code_is finished;
  own_is = w.own_is ∙ (ap (λ (l : List ValType). l ++ w.own) (e.own_is ∙ ap (λ (l : List ValType). l ++ e.own) b.own_is) ∙ append_assoc b.own e.own w.own);
  built = let none : first + length {A = ValType} [] ≡ first = omega arith in subst (λ (n : ℕ). AreCourses (literals_placed p) p.readers.items n building b.courses b.own) none b.are;
  taken = subst (λ (l : List ValType). IsTakingBy guard (literals_placed p) p.readers.items (first + length l) (gathering_of entry operators g) g e.fields e.course e.own) b.own_is e.is;
  field_kinds = e.kinds;
  made =
      let place : first + length own2 ≡ first + length b.own + length e.own =
      (let one = ap (λ (l : List ValType). length l) e.own_is ∙ length-append own1 e.own in let two = ap (λ (l : List ValType). length l) b.own_is in omega (arith, one, two)) in
      subst (λ (n : ℕ). IsOneRow (InSink behind.operators behind.sink) (literals_placed p) (directory g.table) n values w.one w.own) place w.is;
  kinds_are = kinds_are;
}
