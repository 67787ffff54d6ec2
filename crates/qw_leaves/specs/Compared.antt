-- What a condition compares, where it is a comparison (ISO/IEC 9075:1992, 8.2), as a key of a join has to be; and a tree of the code that
-- stands for one.
use Rattle.std.specs.Prelude.{Option, Some, None}
use Rattle.qw_scalar.specs.declared.comparison.Comparison.{Comparison}
use Rattle.qw_scalar.specs.declared.comparison.Comparison.TheVariants.{Equal}
use Rattle.qw_scalar.specs.declared.expression.Expr.{Expr}
use Rattle.qw_scalar.specs.declared.expression.Cond.{Cond}
use Rattle.qw_scalar.specs.declared.expression.Exprs.{Exprs}
use Rattle.qw_scalar.specs.declared.expression.Cond.TheVariants.{Compare', Between', In', Predicate', And', Or', Not', Is'}
use Rattle.qw_scalar.specs.declared.expression.Exprs.TheVariants as Exprs
use Rattle.qw_scalar.specs.Expression.{Expression, Condition, comparison, predicate, both, either, negation_of, is, found}
use Rattle.qw_scalar.specs.Tree.{expression_of}

-- a comparison of two expressions
pub record Compared : Type 0 where
  pub operator : Comparison
  pub left : Expression
  pub right : Expression

-- nothing of any other condition
abbrev pub compared_in : Condition → Option Compared
compared_in (comparison op a b) = Some (record { operator = op; left = a; right = b })
compared_in (predicate p a) = None
compared_in (both c d) = None
compared_in (either c d) = None
compared_in (negation_of c) = None
compared_in (is c t) = None
compared_in (found n asked keys kinds rows) = None

-- something holds of what is compared
abbrev pub OfCompared : (Comparison → Expression → Expression → Type 0) → Option Compared → Type 0
OfCompared Holds None = Unit {0}
OfCompared Holds (Some k) = Holds k.operator k.left k.right

-- ---- of the code's trees
pub record ComparedTrees : Type 0 where
  pub operator : Comparison
  pub left : Expr
  pub right : Expr

-- IN of one value is an equality (8.4)
abbrev pub value_compared : Expr → Exprs → Option ComparedTrees
value_compared x (Exprs.Last' _ value) = Some (record { operator = Equal; left = x; right = value })
value_compared x (Exprs.More' _ value _ values) = None

abbrev pub trees_compared : Cond → Option ComparedTrees
trees_compared (Compare' op _ a _ b) = Some (record { operator = op; left = a; right = b })
trees_compared (Between' _ x _ a _ b) = None
trees_compared (In' _ x _ values) = value_compared x values
trees_compared (Predicate' p _ a) = None
trees_compared (And' _ c _ d) = None
trees_compared (Or' _ c _ d) = None
trees_compared (Not' _ c) = None
trees_compared (Is' _ c t) = None

-- what they stand for
abbrev pub compared_by : Option ComparedTrees → Option Compared
compared_by None = None
compared_by (Some k) = Some (record { operator = k.operator; left = expression_of k.left; right = expression_of k.right })
