-- What the calls on expressions and conjuncts require, of what pipelines take.
use Rattle.std.proofs.Common.{All, List, ◌++◌, map}
use Rattle.std.specs.List.{AllByRecursion}
use Rattle.std.proofs.lemmas.List.Elements.{All-from_recursion}
use Rattle.qw_scalar.specs.declared.expression.Cond.{Cond}
use Rattle.qw_scalar.specs.declared.expression.Expr.{Expr}
use Rattle.qw_scalar.specs.Expression.{Expression}
use Rattle.qw_scalar.specs.Tree.{condition_of, expression_of}
use Rattle.qw_scalar.specs.Typing.{AreTyped, HasKind, IsTyped}
use Rattle.qw_expr.specs.Bindings.{Knows, TakeKnown, TakesKnown}
use Rattle.qw_expr.specs.Computes.{Known}
use Rattle.qw_physical.specs.Courses.{column_of}
use Rattle.qw_physical.specs.declared.pipeline.ReadColumn.{ReadColumn}
use Rattle.qw_operator.specs.Takes.{IsTestOver, IsValueOver}
use Rattle.qw_operator.proofs.Fronts.{all_mapped, all_more}
use Rattle.qw_leaves.proofs.LeafLists.{all_back, all_front}

module _ (known : List Known) where
  pub values_typed : (xs : List Expr) → AllByRecursion (IsValueOver known) (map expression_of xs) → All (λ (e : Expr). IsTyped (expression_of e)) xs
  values_typed xs all =
      All-from_recursion (λ (e : Expr). IsTyped (expression_of e)) xs
      (all_more (λ (e : Expr). IsValueOver known (expression_of e)) (λ (e : Expr). IsTyped (expression_of e)) xs (λ e h. h.0.0) (all_mapped (IsValueOver known) expression_of xs all))

  pub values_known : (xs : List Expr) → AllByRecursion (IsValueOver known) (map expression_of xs) → All (λ (e : Expr). TakesKnown known (expression_of e)) xs
  values_known xs all =
      All-from_recursion (λ (e : Expr). TakesKnown known (expression_of e)) xs
      (all_more (λ (e : Expr). IsValueOver known (expression_of e)) (λ (e : Expr). TakesKnown known (expression_of e)) xs (λ e h. h.1) (all_mapped (IsValueOver known) expression_of xs all))

  pub values_kinded : (es : List Expression) → AllByRecursion (IsValueOver known) es → AllByRecursion HasKind es
  values_kinded es all = all_more (IsValueOver known) HasKind es (λ e h. h.0.1) all

  pub tests_typed : (xs : List Cond) → AllByRecursion (IsTestOver known) (map condition_of xs) → All (λ (c : Cond). AreTyped (condition_of c)) xs
  tests_typed xs all =
      All-from_recursion (λ (c : Cond). AreTyped (condition_of c)) xs
      (all_more (λ (c : Cond). IsTestOver known (condition_of c)) (λ (c : Cond). AreTyped (condition_of c)) xs (λ c h. h.0) (all_mapped (IsTestOver known) condition_of xs all))

  pub tests_known : (xs : List Cond) → AllByRecursion (IsTestOver known) (map condition_of xs) → All (λ (c : Cond). TakeKnown known (condition_of c)) xs
  tests_known xs all =
      All-from_recursion (λ (c : Cond). TakeKnown known (condition_of c)) xs
      (all_more (λ (c : Cond). IsTestOver known (condition_of c)) (λ (c : Cond). TakeKnown known (condition_of c)) xs (λ c h. h.1) (all_mapped (IsTestOver known) condition_of xs all))

  -- those of a key, and the columns that are kept
  pub key_values : (es : List Expression) (columns : List ReadColumn) → AllByRecursion (IsValueOver known) (es ++ map column_of columns) → AllByRecursion (IsValueOver known) es
  key_values es columns all = all_front (IsValueOver known) es (map column_of columns) all

  pub columns_known : (es : List Expression) (columns : List ReadColumn) → AllByRecursion (IsValueOver known) (es ++ map column_of columns) → AllByRecursion (λ (c : ReadColumn). Knows known (column_of c)) columns
  columns_known es columns all =
      all_more (λ (c : ReadColumn). IsValueOver known (column_of c)) (λ (c : ReadColumn). Knows known (column_of c)) columns (λ c h. h.1)
      (all_mapped (IsValueOver known) column_of columns (all_back (IsValueOver known) es (map column_of columns) all))
