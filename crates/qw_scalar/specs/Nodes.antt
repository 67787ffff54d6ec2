-- How large a tree is: the number of its nodes.
use Rattle.std.specs.Prelude.{ℕ, ◌+◌}
use Rattle.qw_scalar.specs.declared.expression.Expr.{Expr}
use Rattle.qw_scalar.specs.declared.expression.Cond.{Cond}
use Rattle.qw_scalar.specs.declared.expression.Exprs.{Exprs}
use Rattle.qw_scalar.specs.declared.expression.Branches.{Branches}
use Rattle.qw_scalar.specs.declared.expression.Matches.{Matches}
use Rattle.qw_scalar.specs.declared.expression.Expr.TheVariants.{Null, Number, Date, Text, Column, Arithmetic', Negative', Extract', Case', Match', Call'}
use Rattle.qw_scalar.specs.declared.expression.Cond.TheVariants.{Compare', Between', In', Predicate', And', Or', Not', Is'}
use Rattle.qw_scalar.specs.declared.expression.Exprs.TheVariants as Exprs
use Rattle.qw_scalar.specs.declared.expression.Branches.TheVariants as Branches
use Rattle.qw_scalar.specs.declared.expression.Matches.TheVariants as Matches

abbrev mutual
  pub nodes : Expr → ℕ
  nodes Null = 1
  nodes (Number v s) = 1
  nodes (Date d) = 1
  nodes (Text t) = 1
  nodes (Column i ty) = 1
  nodes (Arithmetic' operator _ a _ b) = 1 + nodes a + nodes b
  nodes (Negative' _ a) = 1 + nodes a
  nodes (Extract' field _ a) = 1 + nodes a
  nodes (Case' _ branches) = 1 + nodes_of_branches branches
  nodes (Match' _ x _ matches) = 1 + nodes x + nodes_of_matches matches
  nodes (Call' function _ arguments) = 1 + nodes_of_all arguments

  pub nodes_of : Cond → ℕ
  nodes_of (Compare' op _ a _ b) = 1 + nodes a + nodes b
  nodes_of (Between' _ x _ a _ b) = 1 + nodes x + nodes a + nodes b
  nodes_of (In' _ x _ values) = 1 + nodes x + nodes_of_all values
  nodes_of (Predicate' p _ a) = 1 + nodes a
  nodes_of (And' _ c _ d) = 1 + nodes_of c + nodes_of d
  nodes_of (Or' _ c _ d) = 1 + nodes_of c + nodes_of d
  nodes_of (Not' _ c) = 1 + nodes_of c
  nodes_of (Is' _ c t) = 1 + nodes_of c

  pub nodes_of_all : Exprs → ℕ
  nodes_of_all (Exprs.Last' _ e) = 1 + nodes e
  nodes_of_all (Exprs.More' _ e _ es) = 1 + nodes e + nodes_of_all es

  pub nodes_of_branches : Branches → ℕ
  nodes_of_branches (Branches.Else' _ e) = 1 + nodes e
  nodes_of_branches (Branches.When' _ c _ e _ rest) = 1 + nodes_of c + nodes e + nodes_of_branches rest

  pub nodes_of_matches : Matches → ℕ
  nodes_of_matches (Matches.Last' _ v _ e _ other) = 1 + nodes v + nodes e + nodes other
  nodes_of_matches (Matches.When' _ v _ e _ rest) = 1 + nodes v + nodes e + nodes_of_matches rest
