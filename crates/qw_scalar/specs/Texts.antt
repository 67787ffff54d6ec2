-- The text literals of trees (ISO/IEC 9075:1992, 5.3), in the order in which they stand there.
use Rattle.std.specs.Prelude.{ℕ, List, [], ◌∷◌, ◌++◌}
use Rattle.qw_scalar.specs.declared.expression.Expr.{Expr}
use Rattle.qw_scalar.specs.declared.expression.Cond.{Cond}
use Rattle.qw_scalar.specs.declared.expression.Exprs.{Exprs}
use Rattle.qw_scalar.specs.declared.expression.Branches.{Branches}
use Rattle.qw_scalar.specs.declared.expression.Matches.{Matches}
use Rattle.qw_scalar.specs.declared.expression.Expr.TheVariants.{Null, Number, Date, Text, Column, Arithmetic', Negative', Extract', Case', Match', Call'}
use Rattle.qw_scalar.specs.declared.expression.Cond.TheVariants.{Compare', Between', In', Predicate', And', Or', Not', Is'}
use Rattle.qw_scalar.specs.declared.expression.Exprs.TheVariants as Exprs
use Rattle.qw_scalar.specs.declared.expression.Branches.TheVariants as Branches
use Rattle.qw_scalar.specs.declared.expression.Matches.TheVariants as Matches

abbrev mutual
  pub texts_in : Expr → List (List ℕ)
  texts_in Null = []
  texts_in (Number v s) = []
  texts_in (Date d) = []
  texts_in (Text t) = t ∷ []
  texts_in (Column i ty) = []
  texts_in (Arithmetic' operator _ a _ b) = texts_in a ++ texts_in b
  texts_in (Negative' _ a) = texts_in a
  texts_in (Extract' field _ a) = texts_in a
  texts_in (Case' _ branches) = texts_of_branches branches
  texts_in (Match' _ x _ matches) = texts_in x ++ texts_of_matches matches
  texts_in (Call' function _ arguments) = texts_of_all arguments

  pub texts_within : Cond → List (List ℕ)
  texts_within (Compare' op _ a _ b) = texts_in a ++ texts_in b
  texts_within (Between' _ x _ a _ b) = texts_in x ++ (texts_in a ++ texts_in b)
  texts_within (In' _ x _ values) = texts_in x ++ texts_of_all values
  texts_within (Predicate' p _ a) = texts_in a
  texts_within (And' _ c _ d) = texts_within c ++ texts_within d
  texts_within (Or' _ c _ d) = texts_within c ++ texts_within d
  texts_within (Not' _ c) = texts_within c
  texts_within (Is' _ c t) = texts_within c

  pub texts_of_all : Exprs → List (List ℕ)
  texts_of_all (Exprs.Last' _ e) = texts_in e
  texts_of_all (Exprs.More' _ e _ es) = texts_in e ++ texts_of_all es

  pub texts_of_branches : Branches → List (List ℕ)
  texts_of_branches (Branches.Else' _ e) = texts_in e
  texts_of_branches (Branches.When' _ c _ e _ rest) = texts_within c ++ (texts_in e ++ texts_of_branches rest)

  pub texts_of_matches : Matches → List (List ℕ)
  texts_of_matches (Matches.Last' _ v _ e _ other) = texts_in v ++ (texts_in e ++ texts_in other)
  texts_of_matches (Matches.When' _ v _ e _ rest) = texts_in v ++ (texts_in e ++ texts_of_matches rest)
