-- What holds of each condition by what it compares: of comparisons, and of all that compare nothing.
use Rattle.std.proofs.Common.{◌≡◌, Option, Some, None, refl}
use Rattle.qw_scalar.specs.declared.comparison.Comparison.{Comparison}
use Rattle.qw_scalar.specs.declared.expression.Cond.{Cond}
use Rattle.qw_scalar.specs.declared.expression.Cond.TheVariants.{Compare', Between', In', Predicate', And', Or', Not', Is'}
use Rattle.qw_scalar.specs.declared.expression.Exprs.TheVariants as Exprs
use Rattle.qw_scalar.specs.Expression.{Expression, Condition, comparison, predicate, both, either, negation_of, is, found}
use Rattle.qw_scalar.specs.Tree.{condition_of}
use Rattle.qw_scalar.specs.Typing.{AreTyped, IsTyped}
use Rattle.qw_leaves.specs.Compared.{Compared, OfCompared, compared_by, compared_in, trees_compared}

module _ (P : Condition → Option Compared → Type 0) (one : (op : Comparison) (a b : Expression) → P (comparison op a b) (Some (record { operator = op; left = a; right = b }))) (none : (c : Condition) → P c None) where
  pub by_compared : (c : Condition) → P c (compared_in c)
  by_compared (comparison op a b) = one op a b
  by_compared (predicate p a) = none (predicate p a)
  by_compared (both c d) = none (both c d)
  by_compared (either c d) = none (either c d)
  by_compared (negation_of c) = none (negation_of c)
  by_compared (is c t) = none (is c t)
  by_compared (found n asked keys kinds rows) = none (found n asked keys kinds rows)

-- operands of typed conditions are typed
pub operands_typed : (c : Condition) → AreTyped c → OfCompared (λ op a b. IsTyped a × IsTyped b) (compared_in c)
operands_typed = by_compared (λ c o. AreTyped c → OfCompared (λ op a b. IsTyped a × IsTyped b) o) (λ op a b h. h.0) (λ c h. tt)

-- a tree of the code compares what it stands for compares
pub trees_are : (c : Cond) → compared_in (condition_of c) ≡ compared_by (trees_compared c)
trees_are (Compare' op _ a _ b) = refl
trees_are (Between' _ x _ a _ b) = refl
trees_are (In' _ x _ (Exprs.Last' _ v)) = refl
trees_are (In' _ x _ (Exprs.More' _ v _ vs)) = refl
trees_are (Predicate' p _ a) = refl
trees_are (And' _ c _ d) = refl
trees_are (Or' _ c _ d) = refl
trees_are (Not' _ c) = refl
trees_are (Is' _ c t) = refl
