use Rattle.std.proofs.Common.{◌++◌, [], ◌∷◌, List, map, refl, ap, ◌∙◌, subst}
use Rattle.qw_physical.specs.Coded.{operator_of}
use Rattle.qw_physical.specs.Inner.Spelling.{AreFolds, AreItemFolds}
use Rattle.qw_physical.specs.declared.pipeline.Operator.{Operator}
use Rattle.qw_physical.specs.declared.pipeline.Operator.TheVariants as operators
use Rattle.qw_scalar.specs.Tree.{condition_of, expression_of}
use Rattle.qw_scalar.specs.declared.expression.Cond.{Cond}
use Rattle.qw_scalar.specs.declared.expression.Expr.{Expr}
use Rattle.qw_compile_whole.proofs.BehindFolds.{behind_short, behind_texts, items_follow, tests_follow}
use Rattle.qw_compile_whole.proofs.behind.behind_of.Goals as goal

pub returns-clause-behind : goal.returns-clause-behind
returns-clause-behind c =
    let q = c.args.query.now in
    let one = subst (λ (l : List Cond). AreFolds l c.in_ok-having.having.items) c.having.ensures.having c.in_ok-having.ensures in
    let two = subst (λ (l : List Expr). AreItemFolds l c.in_ok-items.items.items) c.items.ensures.items c.in_ok-items.ensures in
    let steps = c.in_ok-push.ensures.items ∙ ap (λ (l : List Operator). l ++ operators.Filter c.in_ok-having.having ∷ []) c.new-operators.ensures.items in
    record {
      having = map condition_of c.in_ok-having.having.items;
      items = map expression_of c.in_ok-items.items.items;
      operators_are = ap (λ (l : List Operator). map operator_of l) steps;
      sink_is = refl;
      having_follow = tests_follow q.having c.in_ok-having.having.items one;
      items_follow = items_follow q.items c.in_ok-items.items.items two;
    }

pub returns-clause-short : goal.returns-clause-short
returns-clause-short c =
    let q = c.args.query.now in
    let one = subst (λ (l : List Cond). AreFolds l c.in_ok-having.having.items) c.having.ensures.having c.in_ok-having.ensures in
    let two = subst (λ (l : List Expr). AreItemFolds l c.in_ok-items.items.items) c.items.ensures.items c.in_ok-items.ensures in
    let steps = c.in_ok-push.ensures.items ∙ ap (λ (l : List Operator). l ++ operators.Filter c.in_ok-having.having ∷ []) c.new-operators.ensures.items in
    behind_short q.having c.in_ok-having.having.items q.items c.in_ok-items.items.items one two 0 0 c.in_ok-having.having refl c.push.new.self steps c.in_ok-items.items refl

pub returns-clause-texts : goal.returns-clause-texts
returns-clause-texts c =
    let q = c.args.query.now in
    let one = subst (λ (l : List Cond). AreFolds l c.in_ok-having.having.items) c.having.ensures.having c.in_ok-having.ensures in
    let two = subst (λ (l : List Expr). AreItemFolds l c.in_ok-items.items.items) c.items.ensures.items c.in_ok-items.ensures in
    let steps = c.in_ok-push.ensures.items ∙ ap (λ (l : List Operator). l ++ operators.Filter c.in_ok-having.having ∷ []) c.new-operators.ensures.items in
    behind_texts q.having c.in_ok-having.having.items q.items c.in_ok-items.items.items one two 0 0 c.in_ok-having.having refl c.push.new.self steps c.in_ok-items.items refl
