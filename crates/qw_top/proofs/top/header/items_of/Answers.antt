use Rattle.std.proofs.Common.{sym, subst}
use Rattle.std.specs.List.{AllByRecursion}
use Rattle.qw_scalar.specs.Tree.{expression_of}
use Rattle.qw_scalar.specs.Typing.{IsTyped}
use Rattle.qw_scalar.specs.declared.expression.Expr.{Expr}
use Rattle.qw_top.proofs.QueryLemmas.{all_typed}
use Rattle.qw_top.proofs.top.header.items_of.Goals as goal

pub returns-in-Plain-clause-typed : goal.returns-in-Plain-clause-typed
returns-in-Plain-clause-typed c =
    subst (AllByRecursion (λ (e : Expr). IsTyped (expression_of e))) (sym c.items.ensures.items) (all_typed _ c.in-Plain.query.items c.items.ensures.kept.items)

pub returns-in-Grouped-clause-typed : goal.returns-in-Grouped-clause-typed
returns-in-Grouped-clause-typed c =
    subst (AllByRecursion (λ (e : Expr). IsTyped (expression_of e))) (sym c.items-in-Grouped.ensures.items) (all_typed _ c.in-Grouped.query.items c.items-in-Grouped.ensures.kept.items)
