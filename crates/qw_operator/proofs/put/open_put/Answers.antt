use Rattle.std.proofs.Common.{◌+◌, ◌*◌, ◌≤◌, List, length, map, sum_by, sym, subst, arith}
use Rattle.std.specs.List.{AllByRecursion}
use Rattle.qw_scalar.specs.declared.expression.Expr.{Expr}
use Rattle.qw_scalar.specs.Nodes.{nodes}
use Rattle.qw_scalar.specs.Tree.{expression_of}
use Rattle.qw_low.proofs.Appended.{if_ok, on_ok}
use Rattle.qw_expr.specs.Bindings.{known_of}
use Rattle.qw_expr.specs.Emits.{extent}
use Rattle.qw_group.specs.Areas.{area_types}
use Rattle.qw_group.specs.Groups.{group_types}
use Rattle.qw_operator.specs.Opened.{AreMade}
use Rattle.qw_operator.specs.Takes.{IsValueOver}
use Rattle.qw_operator.specs.Grouping.{group_of}
use Rattle.qw_operator.specs.Inner.Entering.{put_types}
use Rattle.qw_operator.specs.declared.group.Place.{Place}
use Rattle.qw_operator.proofs.put.open_put.Goals as goal

pub open_values-requires-clause-key : goal.open_values-requires-clause-key
open_values-requires-clause-key c = subst (λ (l : List Expr). AllByRecursion (IsValueOver (known_of c.args.known.now)) (map expression_of l)) (sym c.deref.ensures.value) c.requires.takes

pub returns-in-Table-clause-made : goal.returns-in-Table-clause-made
returns-in-Table-clause-made c =
    if_ok _ _ c.open_values.result
    (λ made h.
    subst (λ (p : Place). AreMade (put_types p) (known_of c.args.known.now) (group_of c.args.group.now).values c.args.group.now.table c.args.emitter.now c.open_values.new.emitter made.directory made.free made.key.items) (sym c.in-Table.is)
    (subst (λ (l : List Expr). AreMade group_types (known_of c.args.known.now) (map expression_of l) c.args.group.now.table c.args.emitter.now c.open_values.new.emitter made.directory made.free made.key.items) c.deref.ensures.value h))
    c.open_values.ensures.made

pub returns-in-Table-clause-short : goal.returns-in-Table-clause-short
returns-in-Table-clause-short c =
    on_ok _ _ c.open_values.result
    (λ h. let few = subst (λ (l : List Expr). extent c.open_values.new.emitter ≤ extent c.args.emitter.now + 400 * sum_by nodes l + length group_types) c.deref.ensures.value h in omega (arith, few)) c.open_values.ensures.short

pub open_values-requires-in-OneGroup-clause-key : goal.open_values-requires-in-OneGroup-clause-key
open_values-requires-in-OneGroup-clause-key c = subst (λ (l : List Expr). AllByRecursion (IsValueOver (known_of c.args.known.now)) (map expression_of l)) (sym c.deref-in-OneGroup.ensures.value) c.requires.takes

pub returns-in-OneGroup-clause-made : goal.returns-in-OneGroup-clause-made
returns-in-OneGroup-clause-made c =
    if_ok _ _ c.open_values-in-OneGroup.result
    (λ made h.
    subst (λ (p : Place). AreMade (put_types p) (known_of c.args.known.now) (group_of c.args.group.now).values c.args.group.now.table c.args.emitter.now c.open_values-in-OneGroup.new.emitter made.directory made.free made.key.items) (sym c.in-OneGroup.is)
    (subst (λ (l : List Expr). AreMade area_types (known_of c.args.known.now) (map expression_of l) c.args.group.now.table c.args.emitter.now c.open_values-in-OneGroup.new.emitter made.directory made.free made.key.items) c.deref-in-OneGroup.ensures.value h))
    c.open_values-in-OneGroup.ensures.made

pub returns-in-OneGroup-clause-short : goal.returns-in-OneGroup-clause-short
returns-in-OneGroup-clause-short c =
    on_ok _ _ c.open_values-in-OneGroup.result
    (λ h. let few = subst (λ (l : List Expr). extent c.open_values-in-OneGroup.new.emitter ≤ extent c.args.emitter.now + 400 * sum_by nodes l + length area_types) c.deref-in-OneGroup.ensures.value h in omega (arith, few)) c.open_values-in-OneGroup.ensures.short
