use Rattle.std.proofs.Common.{◌≤◌, ◌+◌, ◌*◌, List, length, map, sum_by, sym, ap, ◌∙◌, subst, subst₂, arith}
use Rattle.std.specs.List.{AllByRecursion}
use Rattle.qw_physical.specs.Coded.{operator_of, pipeline_of}
use Rattle.qw_physical.specs.declared.pipeline.Operator.{Operator}
use Rattle.qw_physical.specs.declared.pipeline.Pipeline.{Pipeline}
use Rattle.qw_physical.proofs.Reading.{if_ok}
use Rattle.qw_operator.specs.Grouping.{group_of}
use Rattle.qw_group_pipeline.specs.declared.columns.ValueColumn.{ValueColumn}
use Rattle.qw_compile.specs.CourseSpan.{course_span}
use Rattle.qw_compile.specs.Placed.{CanPlace}
use Rattle.qw_compile.specs.declared.courses.Emitted.{Emitted}
use Rattle.qw_compile_whole.specs.GroupedLimits.{gathering_span, walk_span}
use Rattle.qw_compile_whole.specs.GroupedPlaced.{CanGather, EmitsGrouped, EmitsParts}
use Rattle.qw_compile_whole.specs.LastGroup.{IsLastGroup}
use Rattle.qw_compile_whole.proofs.GroupedPlacing.{builders_can, last_gathers, parts_emitted, parts_long}
use Rattle.qw_compile_whole.proofs.gathering.emit_parts.Goals as goal

pub emit_grouped-requires-clause-table : goal.emit_grouped-requires-clause-table
emit_grouped-requires-clause-table c =
    let is = c.in_ok-builders.ensures in
    (omega (arith, is.table_is, is.many, c.requires.many), omega (arith, is.many, c.requires.many, ap (λ (l : List Pipeline). length l) c.deref-2.ensures.value))

pub emit_grouped-requires-clause-builds : goal.emit_grouped-requires-clause-builds
emit_grouped-requires-clause-builds c =
    subst (AllByRecursion (λ (q : Pipeline). CanPlace c.args.places.now (pipeline_of q))) (sym c.deref-2.ensures.value)
    (builders_can c.args.pipelines.items c.len.result c.deref.result.now c.in_ok-builders.field-0 c.in_ok-builders.ensures c.args.places.now c.requires.can)

pub emit_grouped-requires-clause-gathers : goal.emit_grouped-requires-clause-gathers
emit_grouped-requires-clause-gathers c =
    let m = c.in_ok-builders.field-0 in
    let is = subst (λ (l : List ValueColumn). IsLastGroup c.args.pipelines.items c.len.result l c.in_ok-builders.field-0) c.deref.ensures.value c.in_ok-builders.ensures in
    subst (λ (os : List Operator). CanGather c.args.places.now m.entry (map operator_of os) (group_of m.group)) (sym c.deref-3.ensures.value)
    (last_gathers c.args.pipelines.items c.len.result c.args.columns.now.values.items m is c.args.columns.now.key.items (c.len.ensures ∙ c.args.columns.now.key.ok.0) c.requires.groups c.args.places.now c.requires.can)

pub returns-clause-emits : goal.returns-clause-emits
returns-clause-emits c =
    let m = c.in_ok-builders.field-0 in
    let is = subst (λ (l : List ValueColumn). IsLastGroup c.args.pipelines.items c.len.result l c.in_ok-builders.field-0) c.deref.ensures.value c.in_ok-builders.ensures in
    let p = c.args.places.now in
    let key = c.args.columns.now.key.items in
    let values = c.args.columns.now.values.items in
    let behind = pipeline_of c.args.pipeline.now in
    if_ok c.emit_grouped.result
    (λ (made : Emitted). EmitsGrouped m.guard p c.args.first (map pipeline_of c.deref-2.result.now) m.entry (map operator_of c.deref-3.result.now) (group_of m.group) key values behind made.block.code.items made.own.items made.kinds.items)
    (λ (made : Emitted). EmitsParts p c.args.first (map pipeline_of c.args.pipelines.items) key values behind made.block.code.items made.own.items made.kinds.items)
    (λ made h. parts_emitted c.args.pipelines.items c.len.result values m is p c.args.first key behind made.block.code.items made.own.items made.kinds.items (c.len.ensures ∙ c.args.columns.now.key.ok.0)
    (subst₂ (λ (ps : List Pipeline) (os : List Operator). EmitsGrouped m.guard p c.args.first (map pipeline_of ps) m.entry (map operator_of os) (group_of m.group) key values behind made.block.code.items made.own.items made.kinds.items) c.deref-2.ensures.value c.deref-3.ensures.value h))
    c.emit_grouped.ensures.emits

pub returns-clause-short : goal.returns-clause-short
returns-clause-short c =
    let m = c.in_ok-builders.field-0 in
    let is = subst (λ (l : List ValueColumn). IsLastGroup c.args.pipelines.items c.len.result l c.in_ok-builders.field-0) c.deref.ensures.value c.in_ok-builders.ensures in
    let rs = c.args.places.now.readers.items in
    let key = c.args.columns.now.key.items in
    let values = c.args.columns.now.values.items in
    let keyed = c.len.ensures ∙ c.args.columns.now.key.ok.0 in
    let walks = walk_span (length key) (length values) c.args.pipeline.now in
    if_ok c.emit_grouped.result (λ (made : Emitted). length made.block.code.items + length made.own.items ≤ sum_by (course_span rs) c.deref-2.result.now + gathering_span rs m.entry c.deref-3.result.now m.group + walks)
    (λ (made : Emitted). length made.block.code.items + length made.own.items ≤ sum_by (course_span rs) c.args.pipelines.items + 356 * (length key + length values) + walks + 100)
    (λ made h.
    let long = parts_long c.args.pipelines.items c.len.result values m is key keyed c.requires.groups rs (length made.block.code.items + length made.own.items) walks
    (subst₂ (λ (ps : List Pipeline) (os : List Operator). length made.block.code.items + length made.own.items ≤ sum_by (course_span rs) ps + gathering_span rs m.entry os m.group + walks) c.deref-2.ensures.value c.deref-3.ensures.value h) in
    omega (arith, long, keyed))
    c.emit_grouped.ensures.short
