-- How many steps and locals there are of a grouped query's pipelines, and of its statement.
use Rattle.std.proofs.Common.{◌≡◌, ℕ, ◌+◌, ◌*◌, ◌≤◌, eqb, Option, Some, None, List, [], ◌∷◌, ◌++◌, length, length-append, map, sum_by, sym, ap, ◌∙◌, subst, arith}
use Rattle.std.specs.List.{AllByRecursion, IsDistinct}
use Rattle.std.proofs.lemmas.List.Sums.{sum_by-append, sum_by-cons}
use Rattle.qw_module.specs.declared.instruction.ValType.{ValType}
use Rattle.qw_algebra.proofs.Lists.{all_more}
use Rattle.qw_scalar.specs.Nodes.{nodes, nodes_of}
use Rattle.qw_low.specs.declared.step.LowStep.{LowStep}
use Rattle.qw_low.specs.Size.{size as statement_size}
use Rattle.qw_low.specs.Steps.{steps_of}
use Rattle.qw_low.specs.Syntax.{Statement}
use Rattle.qw_feed.specs.Room.{space_block}
use Rattle.qw_feed.specs.Rows.{begin_block, finish_block}
use Rattle.qw_expr.specs.Computes.{Known}
use Rattle.qw_expr.specs.Emits.{extent}
use Rattle.qw_expr.specs.declared.emitter.Emitter.{Emitter}
use Rattle.qw_read.specs.declared.reader.Reader.{Reader}
use Rattle.qw_table.specs.Tables.{directory_block}
use Rattle.qw_physical.specs.Coded.{operator_of, pipeline_of, sink_of}
use Rattle.qw_physical.specs.Named.{numbers}
use Rattle.qw_physical.specs.Sizes.{size}
use Rattle.qw_physical.specs.declared.pipeline.Operator.{Operator}
use Rattle.qw_physical.specs.declared.pipeline.Pipeline.{Pipeline}
use Rattle.qw_physical.specs.declared.pipeline.ReadColumn.{ReadColumn}
use Rattle.qw_physical.specs.declared.pipeline.Sink.{Sink}
use Rattle.qw_physical.specs.declared.pipeline.Sink.TheVariants as sink
use Rattle.qw_operator.specs.Carries.{directory}
use Rattle.qw_operator.specs.Span.{sink_span, span}
use Rattle.qw_operator.specs.Takes.{CanCarry}
use Rattle.qw_operator.specs.Grouping.{group_span}
use Rattle.qw_operator.specs.declared.group.Group.{Group}
use Rattle.qw_compile.specs.CourseSpan.{course_span}
use Rattle.qw_compile.specs.QueryLocals.{query_locals, readers_over}
use Rattle.qw_compile.specs.QueryMade.{ArePlacesOf, CanStand}
use Rattle.qw_compile.specs.declared.courses.Places.{Places}
use Rattle.qw_compile.proofs.ReadersFew.{few_over}
use Rattle.qw_compile.proofs.SpanLengths.{CanBe, all_steps, few_operators}
use Rattle.qw_compile.proofs.StatementLengths as statement
use Rattle.qw_compile_whole.specs.GroupedLimits.{AreShortGrouped, gathering_span, walk_span}
use Rattle.qw_compile_whole.specs.GuardedStatements.{count_from, stop_at}

-- ---- what is added to a block
pub added_short : (old new : List LowStep) (own_old own_new : List ValType) (e0 e1 : Emitter) (most : ℕ) → e0.block.code.items ≡ [] → e0.own.items ≡ [] → new ≡ old ++ e1.block.code.items → own_new ≡ own_old ++ e1.own.items → extent e1 ≤ extent e0 + most →
    length new + length own_new ≤ length old + length own_old + most
added_short old new own_old own_new e0 e1 most code0 own0 code own short =
    let all = ap (λ (l : List LowStep). length l) code ∙ length-append old e1.block.code.items in
    let locals = ap (λ (l : List ValType). length l) own ∙ length-append own_old e1.own.items in
    let none = ap (λ (l : List LowStep). length l) code0 in
    let none_own = ap (λ (l : List ValType). length l) own0 in
    omega (arith, all, locals, none, none_own, short)

-- ---- the walk
pub walk_short : (columns functions : ℕ) (behind : Pipeline) (old new : List LowStep) (own_old own_new : List ValType) (e0 e1 : Emitter) → e0.block.code.items ≡ [] → e0.own.items ≡ [] → new ≡ old ++ e1.block.code.items → own_new ≡ own_old ++ e1.own.items →
    extent e1 ≤ extent e0 + (25 * columns + 328 * functions + span behind.operators.items (sink_span behind.sink) + 60) → length new + length own_new + 40 ≤ length old + length own_old + walk_span columns functions behind
walk_short columns functions behind old new own_old own_new e0 e1 code0 own0 code own short =
    let all = added_short old new own_old own_new e0 e1 (25 * columns + 328 * functions + span behind.operators.items (sink_span behind.sink) + 60) code0 own0 code own short in
    omega (arith, all)

-- ---- all of them
-- what counts rows is short
pub counted_few : (guard : Option ℕ) → length (steps_of (count_from guard)) + length (steps_of (stop_at guard)) ≤ 8
counted_few None = omega arith
counted_few (Some z) = omega arith

pub front_short : (guard : Option ℕ) (builds gathers table : ℕ) (code0 code1 code2 code3 code4 code5 : List LowStep) (own0 own1 own2 : List ValType) → code0 ≡ [] → own0 ≡ [] → length code1 + length own1 ≤ length code0 + length own0 + builds → code2 ≡ code1 ++ steps_of (count_from guard) → code3 ≡ code2 ++ steps_of (directory_block (directory table)) →
    length code4 + length own2 + 40 ≤ length code3 + length own1 + gathers → code5 ≡ code4 ++ steps_of (stop_at guard) → length code5 + length own2 ≤ builds + gathers
front_short guard builds gathers table code0 code1 code2 code3 code4 code5 own0 own1 own2 none none_own built counted directed gathered stopped =
    let two = ap (λ (l : List LowStep). length l) counted ∙ length-append code1 (steps_of (count_from guard)) in
    let three = ap (λ (l : List LowStep). length l) directed ∙ length-append code2 (steps_of (directory_block (directory table))) in
    let five = ap (λ (l : List LowStep). length l) stopped ∙ length-append code4 (steps_of (stop_at guard)) in
    let few = counted_few guard in
    omega (arith, two, three, five, few, built, gathered, ap (λ (l : List LowStep). length l) none, ap (λ (l : List ValType). length l) none_own)

pub grouped_short : (front walks : ℕ) (code1 code2 code3 code4 : List LowStep) (own1 own2 : List ValType) → length code1 + length own1 ≤ front → code2 ≡ code1 ++ steps_of begin_block → length code3 + length own2 + 40 ≤ length code2 + length own1 + walks → code4 ≡ code3 ++ steps_of finish_block →
    length code4 + length own2 ≤ front + walks
grouped_short front walks code1 code2 code3 code4 own1 own2 before begun walked finished =
    let two = ap (λ (l : List LowStep). length l) begun ∙ length-append code1 (steps_of begin_block) in
    let four = ap (λ (l : List LowStep). length l) finished ∙ length-append code3 (steps_of finish_block) in
    omega (arith, two, four, before, walked)

-- ---- a pipeline whose rows go into groups, and one that would make rows of their values
pub span_more : (os : List Operator) (m n d : ℕ) → m ≡ n + d → span os m ≡ span os n + d
span_more [] m n d h = h
span_more (o ∷ os) m n d h = let rest = span_more os m n d h in omega (arith, rest)

pub gathering_as_course : (readers : List Reader) (p : Pipeline) (g : Group) → p.sink ≡ sink.Select g.values → gathering_span readers p.entry p.operators.items g ≡ course_span readers p + 356 * length g.values.items + 100
gathering_as_course readers p g is =
    let two = ap (λ (s : Sink). span p.operators.items (sink_span s)) is in
    let three = span_more p.operators.items (group_span g) (sink_span (sink.Select g.values)) (356 * length g.values.items + 100) (omega arith) in
    omega (arith, two, three)

-- ---- of a query that is short
pub parts_short : (readers : List Reader) → ((entry : ℕ) → length (readers_over entry readers) ≤ 64) → (ps : List Pipeline) → AllByRecursion CanBe ps → (behind : Pipeline) → CanBe behind → (columns functions : ℕ) → AreShortGrouped ps behind (columns + functions) →
    sum_by (course_span readers) ps + 356 * (columns + functions) + walk_span columns functions behind + 100 ≤ 2021000
parts_short readers few ps can behind can_behind columns functions short =
    let all = all_steps readers few ps can in
    let own = few_operators behind.operators.items behind.sink can_behind.known can_behind.takes in
    let before = short.before in
    omega (arith, all, own, before.few_keys, before.matched, before.few_lookups, before.few, short.alone, short.few_nodes)

pub words_few : (ps : List Pipeline) (behind : Pipeline) (columns words : ℕ) → AreShortGrouped ps behind columns → words ≤ sum_by (size nodes nodes_of) (ps ++ behind ∷ []) → words ≤ 4012
words_few ps behind columns words short few =
    let all = sum_by-append (size nodes nodes_of) ps (behind ∷ []) in
    omega (arith, few, all, sum_by-cons (size nodes nodes_of) behind [], short.few_nodes)

-- ---- the whole
pub few_steps : (descriptor texts words : ℕ) (leads sets : Statement) (pipelines code : List LowStep) (own : List ValType) → code ≡ steps_of (space_block descriptor) ++ (steps_of leads ++ (steps_of sets ++ pipelines)) → statement_size leads ≤ 6 * texts → statement_size sets ≤ 2 * words →
    length pipelines + length own ≤ 2030000 → texts ≤ 4012 → words ≤ 4012 → length code ≤ 2097152
few_steps descriptor texts words leads sets pipelines code own is leading setting short few few_words = statement.few_steps descriptor texts words leads sets pipelines code own is leading setting short few few_words

pub few_locals : (tables texts words : ℕ) (columns : List ReadColumn) (own locals : List ValType) (pipelines : List LowStep) → locals ≡ query_locals tables texts words columns own → length pipelines + length own ≤ 2030000 → tables ≤ 9 → texts ≤ 4012 → words ≤ 4012 →
    length columns ≤ 512 → length locals ≤ 2097152
few_locals tables texts words columns own locals pipelines is short few few_texts few_words few_columns = statement.few_locals tables texts words columns own locals pipelines is short few few_texts few_words few_columns

-- from the places of literals and columns
pub places_short : (tables : ℕ) (ts : List (List ℕ)) (ps : List Pipeline) (behind : Pipeline) (columns : List ReadColumn) (p : Places) (known : List Known) (keys functions : ℕ) → ArePlacesOf tables ts (ps ++ behind ∷ []) columns p → IsDistinct eqb (numbers columns) →
    AllByRecursion (λ (q : Pipeline). CanStand tables ts (ps ++ behind ∷ []) columns (pipeline_of q)) ps → CanCarry known (map operator_of behind.operators.items) (sink_of behind.sink) → AreShortGrouped ps behind (keys + functions) →
    sum_by (course_span p.readers.items) ps + 356 * (keys + functions) + walk_span keys functions behind + 100 ≤ 2021000
places_short tables ts ps behind columns p known keys functions are once stand walks short =
    parts_short p.readers.items (λ entry. subst (λ (rs : List Reader). length (readers_over entry rs) ≤ 64) (sym are.readers) (few_over tables _ columns once entry)) ps
    (all_more (λ (q : Pipeline). CanStand tables ts (ps ++ behind ∷ []) columns (pipeline_of q)) CanBe ps (λ q can. record { known = _; takes = can.takes }) stand) behind (record { known = known; takes = walks }) keys functions short
