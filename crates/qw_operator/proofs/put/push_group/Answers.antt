use Rattle.std.proofs.Common.{◌-◌, List, drop, length, take, sym, ap, ◌∙◌, subst, arith}
use Rattle.qw_grouped.specs.declared.set_function.SetFunctionKind.{SetFunctionKind}
use Rattle.qw_group.specs.Groups.{AreArgumentsBelow}
use Rattle.qw_group.specs.declared.group.Aggregate.{Aggregate}
use Rattle.qw_operator.proofs.FieldParts.{arguments_below, over_few, take_few}
use Rattle.qw_operator.proofs.put.push_group.Goals as goal

pub emit_group-requires-clause-arguments : goal.emit_group-requires-clause-arguments
emit_group-requires-clause-arguments c =
    subst (λ (l : List Aggregate). AreArgumentsBelow c.args.free l) (sym (c.deref-2.ensures.value ∙ c.in_ok-aggregates.ensures))
    (arguments_below c.args.free (length c.args.fields.now - c.args.group.now.columns) c.args.group.now.columns c.deref.result.now c.args.fields.now c.requires.below)

pub emit_group-requires-clause-few : goal.emit_group-requires-clause-few
emit_group-requires-clause-few c =
    let many = c.requires.many in
    let few = c.requires.few in
    let keyed = take_few c.args.group.now.columns c.args.fields.now in
    let same = ap (λ (l : List Aggregate). length l) (c.deref-2.ensures.value ∙ c.in_ok-aggregates.ensures) in
    let over = over_few c.deref.result.now (take (length c.args.fields.now - c.args.group.now.columns) (drop c.args.group.now.columns c.args.fields.now)) in
    let functions = ap (λ (l : List SetFunctionKind). length l) c.deref.ensures.value in
    (omega (arith, many, few, keyed), omega (arith, many, few, same, over, functions))
