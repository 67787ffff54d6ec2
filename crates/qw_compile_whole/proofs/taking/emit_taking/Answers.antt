use Rattle.std.proofs.Common.{◌++◌, ◌+◌, ◌*◌, ◌≤◌, All, ℕ, List, length, map, slice_get, refl, sym, ap, ap₂, ◌∙◌, subst, arith}
use Rattle.std.specs.List.{AllByRecursion}
use Rattle.qw_types.specs.Value.{IsSized}
use Rattle.qw_grouped.specs.declared.set_function.SetFunctionKind.{SetFunctionKind}
use Rattle.qw_expr.specs.Bindings.{IsServed}
use Rattle.qw_expr.specs.Computes.{Known}
use Rattle.qw_expr.specs.Emits.{extent, free_of}
use Rattle.qw_low.specs.declared.step.LowStep.{LowStep}
use Rattle.qw_low.specs.Size.{size}
use Rattle.qw_low.specs.Steps.{steps_of}
use Rattle.qw_module.specs.declared.instruction.ValType.{ValType}
use Rattle.qw_read.specs.Constants.{known_constant}
use Rattle.qw_read.specs.Reading.{known_of, BeginsAll, HasNullWord}
use Rattle.qw_read.specs.Texts.{known_texts}
use Rattle.qw_read.specs.declared.constant.Constant.{Constant}
use Rattle.qw_read.specs.declared.reader.Reader.{Reader}
use Rattle.qw_table.specs.declared.key.Field.{Field}
use Rattle.qw_group.specs.Single.{single_block}
use Rattle.qw_group.specs.declared.group.Aggregate.{Aggregate}
use Rattle.qw_physical.specs.Coded.{operator_of}
use Rattle.qw_operator.specs.Emitted.{AreOrdered}
use Rattle.qw_operator.specs.Span.{span}
use Rattle.qw_operator.specs.Grouping.{group_of, group_span, over_fields}
use Rattle.qw_compile.specs.QueryLocals.{readers_over}
use Rattle.qw_compile.proofs.CoursePlaced.{indices_over, literals_first, ordered_over, row_as, served_over, sized_over, words_over}
use Rattle.qw_compile_whole.proofs.FieldCounts.{areas_long, fields_long}
use Rattle.qw_compile_whole.proofs.TakingLengths.{taking_short}
use Rattle.qw_compile_whole.proofs.TakingPlaced.{End, taking_emitted}
use Rattle.qw_compile_whole.proofs.taking.emit_taking.Goals as goal

pub bindings_of-requires-clause-sized : goal.bindings_of-requires-clause-sized
bindings_of-requires-clause-sized c =
    let r = c.in_ok-readers.ensures ∙ ap (readers_over c.args.entry) c.deref.ensures.value in
    subst (λ (l : List Reader). All (λ (q : Reader). IsSized q.ty) l) (sym (c.deref-2.ensures.value ∙ r)) (sized_over c.args.places.now c.args.first c.requires.placed c.args.entry)

pub emit_row-requires-clause-served : goal.emit_row-requires-clause-served
emit_row-requires-clause-served c =
    let r = c.in_ok-readers.ensures ∙ ap (readers_over c.args.entry) c.deref.ensures.value in
    let k = c.in_ok-known.ensures ∙ ap₂ (λ (l : List Known) (rs : List Reader). l ++ map known_of rs)
    (ap₂ (λ (l : List Known) (cs : List Constant). l ++ map known_constant cs) (ap₂ known_texts c.deref-3.ensures.value c.deref-4.ensures.value) c.deref-5.ensures.value) (c.deref-2.ensures.value ∙ r) in
    let none = ap (λ (l : List ValType). length l) c.new-emitter.ensures.2 in
    let own = ap (λ (l : List ValType). length l) c.deref-6.ensures.value in
    subst (λ (l : List Known). IsServed (free_of c.new-emitter.result) l) (sym k)
    (served_over c.args.places.now c.args.first c.requires.placed c.args.entry (free_of c.new-emitter.result) (omega (arith, none, own, c.new-emitter.ensures.0, c.in_ok-behind.ensures)))

pub emit_row-requires-clause-words : goal.emit_row-requires-clause-words
emit_row-requires-clause-words c =
    let r = c.in_ok-readers.ensures ∙ ap (readers_over c.args.entry) c.deref.ensures.value in
    subst (λ (l : List Reader). AllByRecursion (λ (q : Reader). HasNullWord q.not_null q.cell.null) l) (sym (c.deref-7.ensures.value ∙ r)) (words_over c.args.places.now c.args.first c.requires.placed c.args.entry)

pub emit_row-requires-clause-ordered : goal.emit_row-requires-clause-ordered
emit_row-requires-clause-ordered c =
    let r = c.in_ok-readers.ensures ∙ ap (readers_over c.args.entry) c.deref.ensures.value in
    let k = c.in_ok-known.ensures ∙ ap₂ (λ (l : List Known) (rs : List Reader). l ++ map known_of rs)
    (ap₂ (λ (l : List Known) (cs : List Constant). l ++ map known_constant cs) (ap₂ known_texts c.deref-3.ensures.value c.deref-4.ensures.value) c.deref-5.ensures.value) (c.deref-2.ensures.value ∙ r) in
    let n = ap₂ (λ (x y : ℕ). x + y) (c.len.ensures ∙ c.args.places.now.literals.ok.0) (c.len-2.ensures ∙ c.args.places.now.constants.ok.0) in
    subst (λ (l : List Reader). AreOrdered (c.len.result + c.len-2.result) l c.in_ok-known.known.items) (sym (c.deref-7.ensures.value ∙ r))
    (ordered_over c.args.places.now c.args.first c.requires.placed c.args.entry c.in_ok-known.known.items (c.len.result + c.len-2.result) n k)

pub emit_row-requires-clause-can : goal.emit_row-requires-clause-can
emit_row-requires-clause-can c =
    let none = ap (λ (l : List ValType). length l) c.new-emitter.ensures.2 in
    let own = ap (λ (l : List ValType). length l) c.deref-6.ensures.value in
    (c.requires.can.groups, λ one. omega (arith, none, own, c.new-emitter.ensures.0, c.in_ok-behind.ensures, c.requires.low))

pub aggregates_over-requires : goal.aggregates_over-requires
aggregates_over-requires c =
    let g = group_of c.args.group.now in
    let many = c.requires.can.groups.many in
    let long = fields_long g c.in_ok-fields.field-0.fields.items c.in_ok-fields.ensures.values in
    let functions = ap (λ (l : List SetFunctionKind). length l) c.deref-8.ensures.value in
    let fields = ap (λ (l : List Field). length l) c.deref-9.ensures.value in
    omega (arith, many, long, functions, fields)

pub emit_single_start-requires-clause-few : goal.emit_single_start-requires-clause-few
emit_single_start-requires-clause-few c =
    let g = group_of c.args.group.now in
    let can = c.requires.can.groups in
    let areas = ap (λ (l : List Aggregate). length l) (c.deref-10.ensures.value ∙ (c.in_ok-areas.ensures ∙ ap₂ over_fields c.deref-8.ensures.value c.deref-9.ensures.value)) in
    let many = areas_long g c.in_ok-fields.field-0.fields.items can c.requires.alone c.in_ok-fields.ensures.values in
    omega (arith, areas, many, can.many, can.few)

pub push_course-requires-clause-indices : goal.push_course-requires-clause-indices
push_course-requires-clause-indices c =
    let r = c.in_ok-readers.ensures ∙ ap (readers_over c.args.entry) c.deref.ensures.value in
    subst (λ (l : List Reader). AllByRecursion (λ (q : Reader). q.index ≤ 512) l) (sym (c.deref-11.ensures.value ∙ r)) (indices_over c.args.places.now c.args.first c.requires.placed c.args.entry)

pub returns-clause-emits : goal.returns-clause-emits
returns-clause-emits c =
    let r = c.in_ok-readers.ensures ∙ ap (readers_over c.args.entry) c.deref.ensures.value in
    let k = c.in_ok-known.ensures ∙ ap₂ (λ (l : List Known) (rs : List Reader). l ++ map known_of rs)
    (ap₂ (λ (l : List Known) (cs : List Constant). l ++ map known_constant cs) (ap₂ known_texts c.deref-3.ensures.value c.deref-4.ensures.value) c.deref-5.ensures.value) (c.deref-2.ensures.value ∙ r) in
    let n = ap₂ (λ (x y : ℕ). x + y) (c.len.ensures ∙ c.args.places.now.literals.ok.0) (c.len-2.ensures ∙ c.args.places.now.constants.ok.0) in
    let front = literals_first c.args.places.now c.args.first c.requires.placed c.args.entry c.in_ok-known.known.items (c.len.result + c.len-2.result) n k in
    let pushed = c.in_ok-push_course.ensures in
    let g = group_of c.args.group.now in
    let fields = c.in_ok-fields.field-0.fields.items in
    let old = c.args.block.now.code.items in
    let many = ap (λ (l : List Aggregate). length l) (c.deref-10.ensures.value ∙ (c.in_ok-areas.ensures ∙ ap₂ over_fields c.deref-8.ensures.value c.deref-9.ensures.value))
    ∙ areas_long g fields c.requires.can.groups c.requires.alone c.in_ok-fields.ensures.values in
    taking_emitted c.args.guard c.args.places.now c.args.first c.args.entry (map operator_of c.args.operators.now) g fields old c.push_count_from.new.block.code.items c.emit_single_start.new.block.code.items c.push_course.new.block.code.items c.push_stop_at.new.block.code.items c.args.own.now.items c.extend_from_slice.new.self.items c.new-emitter.result
    c.emit_row.new.emitter pushed.0 pushed.2
    (c.new-emitter.ensures.0 ∙ (c.in_ok-behind.ensures ∙ ap (λ (l : List ValType). c.args.first + length l) c.deref-6.ensures.value)) c.new-emitter.ensures.1 c.new-emitter.ensures.2
    (row_as (End c.args.guard fields g) _ _ _ _ _ (map operator_of c.args.operators.now) c.new-emitter.result c.emit_row.new.emitter front (c.deref-7.ensures.value ∙ r) refl c.in_ok-fields.ensures.emits)
    c.in_ok-fields.ensures.values c.in_ok-push_count_from.ensures
    (c.in_ok-emit_single_start.ensures.0 ∙ ap₂ (λ (x d : ℕ). c.push_count_from.new.block.code.items ++ steps_of (single_block (32 * x) d)) many c.directory.ensures)
    (ap (λ (l : List Reader). slice_get l 0) (sym (c.deref-11.ensures.value ∙ r)) ∙ pushed.1)
    (subst (λ (l : List Reader). BeginsAll l pushed.2) (c.deref-11.ensures.value ∙ r) pushed.3)
    pushed.4 c.in_ok-push_stop_at.ensures
    (c.in_ok-extend_from_slice.ensures.items ∙ ap (λ (l : List ValType). c.args.own.now.items ++ l) c.deref-12.ensures.value)

pub returns-clause-short : goal.returns-clause-short
returns-clause-short c =
    let r = c.in_ok-readers.ensures ∙ ap (readers_over c.args.entry) c.deref.ensures.value in
    let pushed = c.in_ok-push_course.ensures in
    let row = c.in_ok-fields.ensures.emits in
    let coded = row.code_is ∙ ap (λ (l : List LowStep). l ++ steps_of row.statement) c.new-emitter.ensures.1 in
    let readers = c.args.places.now.readers.items in
    taking_short c.args.guard c.args.places.now.tables (record { index = pushed.0.index; begins = pushed.2; row = row.statement }) (32 * length c.deref-10.result.now) c.directory.result (length (readers_over c.args.entry readers)) (span c.args.operators.now (group_span c.args.group.now))
    c.args.block.now.code.items c.push_count_from.new.block.code.items c.emit_single_start.new.block.code.items c.push_course.new.block.code.items c.push_stop_at.new.block.code.items c.args.own.now.items c.extend_from_slice.new.self.items c.new-emitter.result c.emit_row.new.emitter
    c.in_ok-push_count_from.ensures c.in_ok-emit_single_start.ensures.0
    (subst (λ (l : List Reader). size pushed.2 ≤ 13 * length l) (c.deref-11.ensures.value ∙ r) pushed.3.short) (pushed.4 row.statement coded) c.in_ok-push_stop_at.ensures coded
    (c.in_ok-extend_from_slice.ensures.items ∙ ap (λ (l : List ValType). c.args.own.now.items ++ l) c.deref-12.ensures.value) c.new-emitter.ensures.1 c.new-emitter.ensures.2
    (subst (λ (rs : List Reader). extent c.emit_row.new.emitter ≤ extent c.new-emitter.result + (span c.args.operators.now (group_span c.args.group.now) + 117 * length rs + 40)) (c.deref-7.ensures.value ∙ r) c.in_ok-fields.ensures.short)
