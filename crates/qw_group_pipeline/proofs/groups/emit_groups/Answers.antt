use Rattle.std.proofs.Common.{◌+◌, ◌++◌, List, map, ap, sym, ◌∙◌, subst, arith}
use Rattle.qw_module.specs.declared.instruction.ValType.{ValType}
use Rattle.qw_expr.specs.Bindings.{IsServed, known_of}
use Rattle.qw_expr.specs.Computes.{Known}
use Rattle.qw_expr.specs.Emits.{free_of}
use Rattle.qw_physical.specs.Coded.{operator_of, sink_of}
use Rattle.qw_operator.specs.Carries.{IsSunk}
use Rattle.qw_operator.specs.Span.{sink_span, span}
use Rattle.qw_operator.specs.Takes.{CanCarry}
use Rattle.qw_group_pipeline.proofs.GroupEmits.{group_served, group_takes, groups_emit, groups_within, inner_free}
use Rattle.qw_group_pipeline.proofs.groups.emit_groups.Goals as goal

pub emit_operators-requires-clause-takes : goal.emit_operators-requires-clause-takes
emit_operators-requires-clause-takes c =
    let met = c.in_ok-inner.ensures in
    subst (λ (ks : List Known). CanCarry ks (map operator_of c.args.operators.now) (sink_of c.args.sink.now)) (sym met.known_is)
    (group_takes (c.in_ok-count.count + 2) c.args.columns.now.key.items c.args.columns.now.values.items (known_of c.args.literals.items) (map operator_of c.args.operators.now) (sink_of c.args.sink.now) c.requires.takes)

pub emit_operators-requires-clause-served : goal.emit_operators-requires-clause-served
emit_operators-requires-clause-served c =
    let met = c.in_ok-inner.ensures in
    let inner = c.in_ok-inner.field-0.inner in
    let key = c.args.columns.now.key.items in
    let values = c.args.columns.now.values.items in
    let at = c.in_ok-count.ensures.local.0 in
    let far = inner_free (known_of c.args.literals.items) c.in_ok-count.count key values inner (known_of c.in_ok-inner.field-0.known.items) met in
    subst (IsServed (free_of inner)) (sym met.known_is)
    (group_served (free_of c.args.emitter.now) (c.in_ok-count.count + 2) (free_of inner) key values (known_of c.args.literals.items) (omega (arith, at)) (omega (arith, far)) c.requires.served)

pub returns-clause-emits : goal.returns-clause-emits
returns-clause-emits c =
    groups_emit (known_of c.args.literals.items) c.in_ok-count.count c.args.columns.now.key.items c.args.columns.now.values.items c.in_ok-inner.field-0.inner (known_of c.in_ok-inner.field-0.known.items) c.in_ok-inner.ensures (IsSunk (sink_of c.args.sink.now)) (map operator_of c.args.operators.now)
    c.args.directory c.args.emitter.now c.declare.new.emitter (record { first = c.declare.new.emitter.first; block = c.emit_group_walk.new.block; own = c.extend_from_slice.new.self }) c.emit_operators.new.emitter c.in_ok-count.ensures.local.0 c.in_ok-kinds.ensures.emits
    c.in_ok-count.ensures.same.1 c.in_ok-count.ensures.own c.in_ok-emit_group_walk.ensures.block (c.in_ok-extend_from_slice.ensures.items ∙ ap (λ (l : List ValType). c.declare.new.emitter.own.items ++ l) c.deref.ensures.value) c.in_ok-count.ensures.same.0

pub returns-clause-short : goal.returns-clause-short
returns-clause-short c =
    groups_within (known_of c.args.literals.items) c.in_ok-count.count c.args.columns.now.key.items c.args.columns.now.values.items c.in_ok-inner.field-0.inner (known_of c.in_ok-inner.field-0.known.items) c.in_ok-inner.ensures (IsSunk (sink_of c.args.sink.now)) (map operator_of c.args.operators.now)
    c.args.directory c.args.emitter.now c.declare.new.emitter (record { first = c.declare.new.emitter.first; block = c.emit_group_walk.new.block; own = c.extend_from_slice.new.self }) c.emit_operators.new.emitter c.in_ok-count.ensures.local.0 c.in_ok-kinds.ensures.emits
    c.in_ok-count.ensures.same.1 c.in_ok-count.ensures.own c.in_ok-emit_group_walk.ensures.block (c.in_ok-extend_from_slice.ensures.items ∙ ap (λ (l : List ValType). c.declare.new.emitter.own.items ++ l) c.deref.ensures.value)
    (span c.args.operators.now (sink_span c.args.sink.now)) c.in_ok-kinds.ensures.short
