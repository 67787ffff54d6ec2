use Rattle.std.proofs.Common.{◌≤◌, ◌+◌, ◌*◌, [], List, length, map, sum_by, refl, sym, ap, subst, subst₂, arith}
use Rattle.std.specs.List.{AllByRecursion}
use Rattle.qw_physical.specs.Coded.{operator_of, pipeline_of}
use Rattle.qw_physical.specs.declared.pipeline.Operator.{Operator}
use Rattle.qw_physical.specs.declared.pipeline.Pipeline.{Pipeline}
use Rattle.qw_physical.proofs.Reading.{if_ok}
use Rattle.qw_operator.specs.Grouping.{group_of}
use Rattle.qw_compile.specs.CourseSpan.{course_span}
use Rattle.qw_compile.specs.Placed.{CanPlace}
use Rattle.qw_compile.specs.declared.courses.Emitted.{Emitted}
use Rattle.qw_compile_whole.specs.GroupedLimits.{gathering_span, walk_span}
use Rattle.qw_compile_whole.specs.GroupedPlaced.{CanGather}
use Rattle.qw_compile_whole.specs.SinglePlaced.{EmitsSingle, EmitsSingleParts}
use Rattle.qw_compile_whole.proofs.GroupedPlacing.{builders_can, last_gathers, parts_long}
use Rattle.qw_compile_whole.proofs.SinglePlacing.{single_parts_emitted}
use Rattle.qw_compile_whole.proofs.taking.emit_single_parts.Goals as goal

pub emit_single-requires-clause-table : goal.emit_single-requires-clause-table
emit_single-requires-clause-table c =
    let is = c.in_ok-builders.ensures in
    (omega (arith, is.table_is, is.many, c.requires.many), omega (arith, is.many, c.requires.many, ap (λ (l : List Pipeline). length l) c.deref.ensures.value))

pub emit_single-requires-clause-low : goal.emit_single-requires-clause-low
emit_single-requires-clause-low c = let is = c.in_ok-builders.ensures in omega (arith, is.table_is, is.many, c.requires.low)

pub emit_single-requires-clause-builds : goal.emit_single-requires-clause-builds
emit_single-requires-clause-builds c =
    subst (AllByRecursion (λ (q : Pipeline). CanPlace c.args.places.now (pipeline_of q))) (sym c.deref.ensures.value)
    (builders_can c.args.pipelines.items 0 c.args.values.now c.in_ok-builders.field-0 c.in_ok-builders.ensures c.args.places.now c.requires.can)

pub emit_single-requires-clause-takes : goal.emit_single-requires-clause-takes
emit_single-requires-clause-takes c =
    let m = c.in_ok-builders.field-0 in
    subst (λ (os : List Operator). CanGather c.args.places.now m.entry (map operator_of os) (group_of m.group)) (sym c.deref-2.ensures.value)
    (last_gathers c.args.pipelines.items 0 c.args.values.now m c.in_ok-builders.ensures [] refl c.requires.groups c.args.places.now c.requires.can)

pub returns-clause-emits : goal.returns-clause-emits
returns-clause-emits c =
    let m = c.in_ok-builders.field-0 in
    let p = c.args.places.now in
    let values = c.args.values.now in
    let behind = pipeline_of c.args.pipeline.now in
    if_ok c.emit_single.result
    (λ (made : Emitted). EmitsSingle m.guard p c.args.first (map pipeline_of c.deref.result.now) m.entry (map operator_of c.deref-2.result.now) (group_of m.group) values behind made.block.code.items made.own.items made.kinds.items)
    (λ (made : Emitted). EmitsSingleParts p c.args.first (map pipeline_of c.args.pipelines.items) values behind made.block.code.items made.own.items made.kinds.items)
    (λ made h. single_parts_emitted c.args.pipelines.items values m c.in_ok-builders.ensures p c.args.first behind made.block.code.items made.own.items made.kinds.items
    (subst₂ (λ (ps : List Pipeline) (os : List Operator). EmitsSingle m.guard p c.args.first (map pipeline_of ps) m.entry (map operator_of os) (group_of m.group) values behind made.block.code.items made.own.items made.kinds.items) c.deref.ensures.value c.deref-2.ensures.value h))
    c.emit_single.ensures.emits

pub returns-clause-short : goal.returns-clause-short
returns-clause-short c =
    let m = c.in_ok-builders.field-0 in
    let rs = c.args.places.now.readers.items in
    let values = c.args.values.now in
    let makes = walk_span 0 (length values) c.args.pipeline.now in
    if_ok c.emit_single.result (λ (made : Emitted). length made.block.code.items + length made.own.items ≤ sum_by (course_span rs) c.deref.result.now + gathering_span rs m.entry c.deref-2.result.now m.group + makes)
    (λ (made : Emitted). length made.block.code.items + length made.own.items ≤ sum_by (course_span rs) c.args.pipelines.items + 356 * length values + makes + 100)
    (λ made h.
    let long = parts_long c.args.pipelines.items 0 values m c.in_ok-builders.ensures [] refl c.requires.groups rs (length made.block.code.items + length made.own.items) makes
    (subst₂ (λ (ps : List Pipeline) (os : List Operator). length made.block.code.items + length made.own.items ≤ sum_by (course_span rs) ps + gathering_span rs m.entry os m.group + makes) c.deref.ensures.value c.deref-2.ensures.value h) in
    omega (arith, long))
    c.emit_single.ensures.short
