use Rattle.std.proofs.Common.{List, length, sym, ap, ◌∙◌, subst, arith}
use Rattle.qw_grouped.specs.declared.set_function.SetFunctionKind.{SetFunctionKind}
use Rattle.qw_group.specs.Groups.{AreArgumentsBelow}
use Rattle.qw_group.specs.declared.group.Aggregate.{Aggregate}
use Rattle.qw_operator.proofs.FieldParts.{below_over, over_few}
use Rattle.qw_operator.proofs.put.push_one_group.Goals as goal

pub emit_single-requires-clause-below : goal.emit_single-requires-clause-below
emit_single-requires-clause-below c =
    subst (λ (l : List Aggregate). AreArgumentsBelow c.args.free l) (sym (c.deref-2.ensures.value ∙ c.in_ok-aggregates.ensures)) (below_over c.args.free c.deref.result.now c.args.fields.now c.requires.below)

pub emit_single-requires-clause-few : goal.emit_single-requires-clause-few
emit_single-requires-clause-few c =
    let many = c.requires.many in
    let few = c.requires.few in
    let same = ap (λ (l : List Aggregate). length l) (c.deref-2.ensures.value ∙ c.in_ok-aggregates.ensures) in
    let over = over_few c.deref.result.now c.args.fields.now in
    let functions = ap (λ (l : List SetFunctionKind). length l) c.deref.ensures.value in
    omega (arith, many, few, same, over, functions)
