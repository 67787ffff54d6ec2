use Rattle.std.proofs.Common.{◌≡◌, ◌≤◌, ◌+◌, ◌*◌, ℕ, List, length, map, sum_by, sym, ap, ◌∙◌, subst, subst₂, arith}
use Rattle.std.specs.List.{AllByRecursion}
use Rattle.std.proofs.lemmas.List.{length-map}
use Rattle.qw_scalar.specs.Tree.{expression_of}
use Rattle.qw_physical.specs.Coded.{operator_of, pipeline_of, sink_of}
use Rattle.qw_physical.specs.declared.pipeline.Operator.{Operator}
use Rattle.qw_physical.specs.declared.pipeline.Pipeline.{Pipeline}
use Rattle.qw_physical.specs.declared.pipeline.Sink.{Sink}
use Rattle.qw_physical.specs.declared.pipeline.Sink.TheVariants as sinks
use Rattle.qw_physical.proofs.Reading.{if_ok}
use Rattle.qw_operator.specs.Grouping.{Group, group_of}
use Rattle.qw_operator.specs.declared.group.Group as coded
use Rattle.qw_group_pipeline.specs.declared.columns.ValueColumn.{ValueColumn}
use Rattle.qw_compile.specs.CourseSpan.{course_span}
use Rattle.qw_compile.specs.Placed.{CanPlace}
use Rattle.qw_compile.specs.declared.courses.Emitted.{Emitted}
use Rattle.qw_compile_whole.specs.DistinctPlaced.{CanEnter, EmitsDistinct, EmitsDistinctParts}
use Rattle.qw_compile_whole.specs.GroupedDistinctLimits.{enter_span}
use Rattle.qw_compile_whole.specs.GroupedLimits.{gathering_span, walk_span}
use Rattle.qw_compile_whole.specs.GroupedPlaced.{CanGather, Selects}
use Rattle.qw_compile_whole.specs.LastGroup.{IsLastGroup}
use Rattle.qw_compile_whole.proofs.EnterPlacing.{distinct_parts_emitted, distinct_parts_long, enters_placed}
use Rattle.qw_compile_whole.proofs.GroupedPlacing.{builders_can, last_gathers}
use Rattle.qw_compile_whole.proofs.entering.emit_distinct_parts.Goals as goal

pub emit_distinct-requires-clause-table : goal.emit_distinct-requires-clause-table
emit_distinct-requires-clause-table c =
    let is = c.in_ok-builders.ensures in
    let all = c.len-tables.ensures ∙ c.args.pipelines.ok.0 in
    (omega (arith, is.table_is, is.many, c.requires.many), omega (arith, all, c.requires.many), omega (arith, is.many, c.requires.many, ap (λ (l : List Pipeline). length l) c.deref-2.ensures.value))

pub emit_distinct-requires-clause-builds : goal.emit_distinct-requires-clause-builds
emit_distinct-requires-clause-builds c =
    subst (AllByRecursion (λ (q : Pipeline). CanPlace c.args.places.now (pipeline_of q))) (sym c.deref-2.ensures.value)
    (builders_can c.args.pipelines.items c.len.result c.deref.result.now c.in_ok-builders.field-0 c.in_ok-builders.ensures c.args.places.now c.requires.can)

pub emit_distinct-requires-clause-gathers : goal.emit_distinct-requires-clause-gathers
emit_distinct-requires-clause-gathers c =
    let m = c.in_ok-builders.field-0 in
    let is = subst (λ (l : List ValueColumn). IsLastGroup c.args.pipelines.items c.len.result l c.in_ok-builders.field-0) c.deref.ensures.value c.in_ok-builders.ensures in
    subst (λ (os : List Operator). CanGather c.args.places.now m.entry (map operator_of os) (group_of m.group)) (sym c.deref-3.ensures.value)
    (last_gathers c.args.pipelines.items c.len.result c.args.columns.now.values.items m is c.args.columns.now.key.items (c.len.ensures ∙ c.args.columns.now.key.ok.0) c.requires.groups c.args.places.now c.requires.can)

pub emit_distinct-requires-clause-enters : goal.emit_distinct-requires-clause-enters
emit_distinct-requires-clause-enters c =
    let into : Group = group_of (record { table = c.len-tables.result; columns = c.len-2.result; functions = c.new.result; values = c.in-Select.items }) in
    let shows : c.args.behind.sink ≡ sinks.Select c.in-Select.items = c.in-Select.is in
    let columns_is = c.len-2.ensures ∙ (c.in-Select.items.ok.0 ∙ sym (length-map c.in-Select.items.items expression_of)) in
    subst (λ (os : List Operator). CanEnter c.args.places.now c.args.columns.now.key.items c.args.columns.now.values.items (map operator_of os) into) (sym c.deref-4.ensures.value)
    (enters_placed c.args.places.now c.args.columns.now.key.items c.args.columns.now.values.items (pipeline_of c.args.behind) into (ap sink_of shows) columns_is c.new.ensures.items c.requires.enters)

pub returns-clause-emits : goal.returns-clause-emits
returns-clause-emits c =
    let m = c.in_ok-builders.field-0 in
    let keyed = c.len.ensures ∙ c.args.columns.now.key.ok.0 in
    let is = subst₂ (λ (n : ℕ) (l : List ValueColumn). IsLastGroup c.args.pipelines.items n l c.in_ok-builders.field-0) keyed c.deref.ensures.value c.in_ok-builders.ensures in
    let into : Group = group_of (record { table = c.len-tables.result; columns = c.len-2.result; functions = c.new.result; values = c.in-Select.items }) in
    let shows : c.args.behind.sink ≡ sinks.Select c.in-Select.items = c.in-Select.is in
    let into_columns = c.len-2.ensures ∙ (c.in-Select.items.ok.0 ∙ sym (length-map c.in-Select.items.items expression_of)) in
    let p = c.args.places.now in
    let key = c.args.columns.now.key.items in
    let values = c.args.columns.now.values.items in
    let behind = pipeline_of c.args.behind in
    let key_again = c.args.again.now.columns.key.items in
    let values_again = c.args.again.now.columns.values.items in
    let again = pipeline_of c.args.again.now.pipeline in
    if_ok c.emit_distinct.result
    (λ (made : Emitted). EmitsDistinct m.guard p c.args.first (map pipeline_of c.deref-2.result.now) m.entry (map operator_of c.deref-3.result.now) (group_of m.group) key values (map operator_of c.deref-4.result.now) into key_again values_again again made.block.code.items made.own.items made.kinds.items)
    (λ (made : Emitted). EmitsDistinctParts p c.args.first (map pipeline_of c.args.pipelines.items) key values behind key_again values_again again made.block.code.items made.own.items made.kinds.items)
    (λ made h. distinct_parts_emitted c.args.pipelines.items values key m is p c.args.first behind into key_again values_again again made.block.code.items made.own.items made.kinds.items (c.len-tables.ensures ∙ c.args.pipelines.ok.0) into_columns c.new.ensures.items (ap sink_of shows)
    (subst (λ (hs : List Operator). EmitsDistinct m.guard p c.args.first (map pipeline_of m.builders.items) m.entry (map operator_of m.operators.items) (group_of m.group) key values (map operator_of hs) into key_again values_again again made.block.code.items made.own.items made.kinds.items) c.deref-4.ensures.value
    (subst₂ (λ (ps : List Pipeline) (os : List Operator). EmitsDistinct m.guard p c.args.first (map pipeline_of ps) m.entry (map operator_of os) (group_of m.group) key values (map operator_of c.deref-4.result.now) into key_again values_again again made.block.code.items made.own.items made.kinds.items) c.deref-2.ensures.value c.deref-3.ensures.value h)))
    c.emit_distinct.ensures.emits

pub returns-clause-short : goal.returns-clause-short
returns-clause-short c = λ many.
    let m = c.in_ok-builders.field-0 in
    let keyed = c.len.ensures ∙ c.args.columns.now.key.ok.0 in
    let is = subst₂ (λ (n : ℕ) (l : List ValueColumn). IsLastGroup c.args.pipelines.items n l c.in_ok-builders.field-0) keyed c.deref.ensures.value c.in_ok-builders.ensures in
    let into : coded.Group = record { table = c.len-tables.result; columns = c.len-2.result; functions = c.new.result; values = c.in-Select.items } in
    let shows : c.args.behind.sink ≡ sinks.Select c.in-Select.items = c.in-Select.is in
    let key = c.args.columns.now.key.items in
    let values = c.args.columns.now.values.items in
    let keys = length c.args.again.now.columns.key.items in
    let items_many : length (map expression_of c.in-Select.items.items) ≡ length c.args.again.now.columns.key.items = subst (λ (s : Sink). Selects (λ items. length items ≡ length c.args.again.now.columns.key.items) (sink_of s)) shows many in
    let rs = c.args.places.now.readers.items in
    let walks = walk_span (length c.args.again.now.columns.key.items) (length c.args.again.now.columns.values.items) c.args.again.now.pipeline in
    if_ok c.emit_distinct.result
    (λ (made : Emitted). length made.block.code.items + length made.own.items ≤ sum_by (course_span rs) c.deref-2.result.now + gathering_span rs m.entry c.deref-3.result.now m.group + enter_span (length key) (length values) c.deref-4.result.now into + walks)
    (λ (made : Emitted). length made.block.code.items + length made.own.items ≤ sum_by (course_span rs) c.args.pipelines.items + 356 * (length key + length values) + walk_span (length key) (length values) c.args.behind + 356 * keys + walks + 200)
    (λ made h.
    let long = distinct_parts_long c.args.pipelines.items values key m is c.requires.groups rs c.args.behind into shows (length made.block.code.items + length made.own.items) walks
    (subst (λ (hs : List Operator). length made.block.code.items + length made.own.items ≤ sum_by (course_span rs) m.builders.items + gathering_span rs m.entry m.operators.items m.group + enter_span (length key) (length values) hs into + walks) c.deref-4.ensures.value
    (subst₂ (λ (ps : List Pipeline) (os : List Operator). length made.block.code.items + length made.own.items ≤ sum_by (course_span rs) ps + gathering_span rs m.entry os m.group + enter_span (length key) (length values) c.deref-4.result.now into + walks) c.deref-2.ensures.value c.deref-3.ensures.value h)) in
    omega (arith, long, items_many, length-map c.in-Select.items.items expression_of))
    c.emit_distinct.ensures.short
