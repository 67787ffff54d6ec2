use Rattle.std.proofs.Common.{map, ap, ◌∙◌, arith}
use Rattle.qw_expr.specs.Bindings.{known_of}
use Rattle.qw_physical.specs.Coded.{operator_of, sink_of}
use Rattle.qw_operator.proofs.Knowing.{known_joined}
use Rattle.qw_group_pipeline.specs.Groups.{InSink}
use Rattle.qw_group_pipeline.proofs.OneEmits.{one_emits, one_served, one_takes, read_long}
use Rattle.qw_group_pipeline.proofs.one.emit_one_group.Goals as goal

pub emit_operators-requires-clause-takes : goal.emit_operators-requires-clause-takes
emit_operators-requires-clause-takes c =
    let some = c.in_ok-known.known.items in
    one_takes (known_of c.args.literals.items) c.args.areas c.args.values.now c.args.emitter.now c.read_values.new.emitter (known_of some) (known_of c.append.new.self.items) c.in_ok-known.ensures
    (ap known_of c.in_ok-append.ensures.items ∙ known_joined some c.args.literals.items) (map operator_of c.args.operators.now) (sink_of c.args.sink.now) c.requires.takes

pub emit_operators-requires-clause-served : goal.emit_operators-requires-clause-served
emit_operators-requires-clause-served c =
    let some = c.in_ok-known.known.items in
    one_served (known_of c.args.literals.items) c.args.areas c.args.values.now c.args.emitter.now c.read_values.new.emitter (known_of some) (known_of c.append.new.self.items) c.in_ok-known.ensures
    (ap known_of c.in_ok-append.ensures.items ∙ known_joined some c.args.literals.items) c.requires.served

pub returns-clause-emits : goal.returns-clause-emits
returns-clause-emits c =
    let some = c.in_ok-known.known.items in
    let em = c.in_ok-kinds.ensures.emits in
    one_emits (known_of c.args.literals.items) c.args.areas c.args.values.now c.args.emitter.now c.read_values.new.emitter (known_of some) (known_of c.append.new.self.items) c.in_ok-known.ensures
    (ap known_of c.in_ok-append.ensures.items ∙ known_joined some c.args.literals.items) (InSink (map operator_of c.args.operators.now) (sink_of c.args.sink.now)) c.emit_operators.new.emitter em.statement em.own em.first_is em.code_is em.own_is em.carried

pub returns-clause-short : goal.returns-clause-short
returns-clause-short c =
    let some = c.in_ok-known.known.items in
    let within = c.in_ok-kinds.ensures.short in
    let read = read_long (known_of c.args.literals.items) c.args.areas c.args.values.now c.args.emitter.now c.read_values.new.emitter (known_of some) (known_of c.append.new.self.items) c.in_ok-known.ensures
    (ap known_of c.in_ok-append.ensures.items ∙ known_joined some c.args.literals.items) in
    omega (arith, within, read)
