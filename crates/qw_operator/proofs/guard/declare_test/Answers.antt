use Rattle.std.proofs.Common.{List, length, ap, ◌∙◌, arith, ◌++◌}
use Rattle.qw_module.specs.declared.instruction.ValType.{ValType}
use Rattle.qw_operator.proofs.GuardEmits.{octets_many}
use Rattle.qw_operator.proofs.guard.declare_test.Goals as goal

pub returns-clause-local : goal.returns-clause-local
returns-clause-local c =
    let types = ap (λ (l : List ValType). length l) (c.deref.ensures.value ∙ c.in_ok-types.ensures) in
    let many = octets_many c.args.others.now in
    let room = c.in_ok-free.ensures.local.1 in
    (c.in_ok-free.ensures.local.0, omega (arith, types, many, room))

pub returns-clause-own : goal.returns-clause-own
returns-clause-own c = c.in_ok-free.ensures.own ∙ ap (λ (l : List ValType). c.args.emitter.now.own.items ++ l) (c.deref.ensures.value ∙ c.in_ok-types.ensures)
