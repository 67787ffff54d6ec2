-- The expression that a tree of the code stands for. A tree is held together by addresses, here `_`, which mean nothing.
use Rattle.qw_scalar.specs.declared.expression.Expr.{Expr}
use Rattle.qw_scalar.specs.declared.expression.Cond.{Cond}
use Rattle.qw_scalar.specs.declared.expression.Exprs.{Exprs}
use Rattle.qw_scalar.specs.declared.expression.Branches.{Branches}
use Rattle.qw_scalar.specs.declared.expression.Matches.{Matches}
use Rattle.qw_scalar.specs.declared.expression.Expr.TheVariants.{Null, Number, Date, Text, Column, Arithmetic', Negative', Extract', Case', Match', Call'}
use Rattle.qw_scalar.specs.declared.expression.Cond.TheVariants.{Compare', Between', In', Predicate', And', Or', Not', Is'}
use Rattle.qw_scalar.specs.declared.expression.Exprs.TheVariants as Exprs
use Rattle.qw_scalar.specs.declared.expression.Branches.TheVariants as Branches
use Rattle.qw_scalar.specs.declared.expression.Matches.TheVariants as Matches
use Rattle.qw_scalar.specs.declared.comparison.Comparison.TheVariants.{Equal}
use Rattle.qw_scalar.specs.Expression.{Expression, Condition, null, number, date, text, column, arithmetic, negative, extract, comparison, predicate, both, either, negation_of, is, Expressions, last, more, Choices, otherwise, when, among, between, case, called}

abbrev mutual
  pub expression_of : Expr → Expression
  expression_of Null = null
  expression_of (Number v s) = number v s
  expression_of (Date d) = date d
  expression_of (Text t) = text t
  expression_of (Column i ty) = column i ty
  expression_of (Arithmetic' operator _ a _ b) = arithmetic operator (expression_of a) (expression_of b)
  expression_of (Negative' _ a) = negative (expression_of a)
  expression_of (Extract' field _ a) = extract field (expression_of a)
  expression_of (Case' _ branches) = case (choices_of branches)
  expression_of (Match' _ x _ matches) = case (matches_of matches (expression_of x))
  expression_of (Call' function _ arguments) = called function (expressions_of arguments)

  pub condition_of : Cond → Condition
  condition_of (Compare' op _ a _ b) = comparison op (expression_of a) (expression_of b)
  condition_of (Between' _ x _ a _ b) = between (expression_of x) (expression_of a) (expression_of b)
  condition_of (In' _ x _ values) = among (expression_of x) (expressions_of values)
  condition_of (Predicate' p _ a) = predicate p (expression_of a)
  condition_of (And' _ c _ d) = both (condition_of c) (condition_of d)
  condition_of (Or' _ c _ d) = either (condition_of c) (condition_of d)
  condition_of (Not' _ c) = negation_of (condition_of c)
  condition_of (Is' _ c t) = is (condition_of c) t

  pub expressions_of : Exprs → Expressions
  expressions_of (Exprs.Last' _ e) = last (expression_of e)
  expressions_of (Exprs.More' _ e _ es) = more (expression_of e) (expressions_of es)

  pub choices_of : Branches → Choices
  choices_of (Branches.Else' _ e) = otherwise (expression_of e)
  choices_of (Branches.When' _ c _ e _ rest) = when (condition_of c) (expression_of e) (choices_of rest)

  -- CASE x WHEN v THEN r .. is CASE WHEN x = v THEN r .. (6.9)
  pub matches_of : Matches → Expression → Choices
  matches_of (Matches.Last' _ v _ e _ other) x = when (comparison Equal x (expression_of v)) (expression_of e) (otherwise (expression_of other))
  matches_of (Matches.When' _ v _ e _ rest) x = when (comparison Equal x (expression_of v)) (expression_of e) (matches_of rest x)
