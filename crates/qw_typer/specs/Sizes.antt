-- How large the typed trees of a query are: their nodes (Nodes), and the octets of their text literals (ISO/IEC 9075:1992, 5.3).
use Rattle.std.specs.Prelude.{◌≡◌, ℕ, true, ◌+◌, ◌*◌, ◌≤◌, List, length, sum_by}
use Rattle.std.specs.List.{AllByRecursion, flat_map}
use Rattle.qw_scalar.specs.declared.expression.Expr.{Expr}
use Rattle.qw_scalar.specs.declared.expression.Cond.{Cond}
use Rattle.qw_scalar.specs.declared.expression.Exprs.{Exprs}
use Rattle.qw_scalar.specs.declared.expression.Branches.{Branches}
use Rattle.qw_scalar.specs.declared.expression.Matches.{Matches}
use Rattle.qw_scalar.specs.declared.expression.Expr.TheVariants.{Null, Number, Date, Text, Column, Arithmetic', Negative', Extract', Case', Match', Call'}
use Rattle.qw_scalar.specs.declared.expression.Cond.TheVariants.{Compare', Between', In', Predicate', And', Or', Not', Is'}
use Rattle.qw_scalar.specs.declared.expression.Exprs.TheVariants as Exprs
use Rattle.qw_scalar.specs.declared.expression.Branches.TheVariants as Branches
use Rattle.qw_scalar.specs.declared.expression.Matches.TheVariants as Matches
use Rattle.qw_scalar.specs.Nodes.{nodes, nodes_of}
use Rattle.qw_meaning.specs.Query.{QueryParts}
use Rattle.qw_meaning.specs.declared.query.Joined.{Joined}
use Rattle.qw_meaning.specs.declared.query.Source.{Source}
use Rattle.qw_grouped.specs.Query.{GroupedParts}
use Rattle.qw_grouped.specs.declared.set_function.SetFunction.{SetFunction}
use Rattle.qw_grouped.specs.declared.whole.WholeQuery.{WholeQuery}
use Rattle.qw_grouped.specs.declared.whole.Body.{Body}
use Rattle.qw_grouped.specs.declared.whole.Body.TheVariants.{Plain, Grouped}
use Rattle.qw_typer.specs.declared.query.TypedQuery.{TypedQuery}

-- the octets of the text literals of a typed tree
abbrev mutual
  pub text_octets : Expr → ℕ
  text_octets Null = 0
  text_octets (Number v s) = 0
  text_octets (Date d) = 0
  text_octets (Text t) = length t
  text_octets (Column i ty) = 0
  text_octets (Arithmetic' operator _ a _ b) = text_octets a + text_octets b
  text_octets (Negative' _ a) = text_octets a
  text_octets (Extract' field _ a) = text_octets a
  text_octets (Case' _ branches) = text_octets_of_branches branches
  text_octets (Match' _ x _ matches) = text_octets x + text_octets_of_matches matches
  text_octets (Call' function _ arguments) = text_octets_of_all arguments

  pub text_octets_of : Cond → ℕ
  text_octets_of (Compare' op _ a _ b) = text_octets a + text_octets b
  text_octets_of (Between' _ x _ a _ b) = text_octets x + (text_octets a + text_octets b)
  text_octets_of (In' _ x _ values) = text_octets x + text_octets_of_all values
  text_octets_of (Predicate' p _ a) = text_octets a
  text_octets_of (And' _ c _ d) = text_octets_of c + text_octets_of d
  text_octets_of (Or' _ c _ d) = text_octets_of c + text_octets_of d
  text_octets_of (Not' _ c) = text_octets_of c
  text_octets_of (Is' _ c t) = text_octets_of c

  pub text_octets_of_all : Exprs → ℕ
  text_octets_of_all (Exprs.Last' _ e) = text_octets e
  text_octets_of_all (Exprs.More' _ e _ es) = text_octets e + text_octets_of_all es

  pub text_octets_of_branches : Branches → ℕ
  text_octets_of_branches (Branches.Else' _ e) = text_octets e
  text_octets_of_branches (Branches.When' _ c _ e _ rest) = text_octets_of c + (text_octets e + text_octets_of_branches rest)

  pub text_octets_of_matches : Matches → ℕ
  text_octets_of_matches (Matches.Last' _ v _ e _ other) = text_octets v + (text_octets e + text_octets other)
  text_octets_of_matches (Matches.When' _ v _ e _ rest) = text_octets v + (text_octets e + text_octets_of_matches rest)

-- the conjuncts of each ON
abbrev pub tests_in : List Joined → List Cond
tests_in joins = flat_map (λ (j : Joined). j.on.items) joins

abbrev pub tests_on : List Source → List Cond
tests_on sources = flat_map (λ (s : Source). tests_in s.joins.items) sources

-- the nodes of a query's typed trees
abbrev pub all_nodes : QueryParts → ℕ
all_nodes parts = sum_by nodes_of (tests_on parts.sources) + (sum_by nodes_of parts.conjuncts + sum_by nodes parts.items)

-- and the octets of their text literals
abbrev pub all_octets : QueryParts → ℕ
all_octets parts = sum_by text_octets_of (tests_on parts.sources) + (sum_by text_octets_of parts.conjuncts + sum_by text_octets parts.items)

-- A query that is typed small: each of its nodes as it is written is three and a half at most, and `*` is at most 64 columns of each of
-- 8 entries.
pub record IsSmall (parts : QueryParts) : Type 0 where
  pub few_nodes : all_nodes parts ≤ 4012
  pub few_octets : all_octets parts ≤ 16384

-- The same of a grouped query: of ON, WHERE, the arguments of the set functions, HAVING and the select list. A column of GROUP BY counts as three nodes, and a
-- set function as two beside its argument.
abbrev pub grouped_nodes : GroupedParts → ℕ
grouped_nodes parts =
    sum_by nodes_of (tests_on parts.sources) + (sum_by nodes_of parts.conjuncts + sum_by (λ (f : SetFunction). nodes f.argument) parts.functions)
    + (sum_by nodes_of parts.having + sum_by nodes parts.items) + 3 * length parts.columns + 2 * length parts.functions

abbrev pub grouped_octets : GroupedParts → ℕ
grouped_octets parts =
    sum_by text_octets_of (tests_on parts.sources) + (sum_by text_octets_of parts.conjuncts + sum_by (λ (f : SetFunction). text_octets f.argument) parts.functions)
    + (sum_by text_octets_of parts.having + sum_by text_octets parts.items)

pub record IsSmallGrouped (parts : GroupedParts) : Type 0 where
  pub few_nodes : grouped_nodes parts ≤ 4012
  pub few_octets : grouped_octets parts ≤ 16384

abbrev pub IsSmallBody : Body → Type 0
IsSmallBody (Plain parts) = IsSmall parts
IsSmallBody (Grouped parts) = IsSmallGrouped parts

-- With DISTINCT there is room left for the items, by which rows are told apart: each counts as three nodes more, of a grouped query as two.
abbrev pub HasRoom : Body → Type 0
HasRoom (Plain parts) = all_nodes parts + 3 * length parts.items ≤ 4012
HasRoom (Grouped parts) = grouped_nodes parts + 2 * length parts.items ≤ 4012

-- a query, with DISTINCT or without
pub record IsSmallWhole (query : WholeQuery) : Type 0 where
  pub body : IsSmallBody query.body
  pub room : query.distinct ≡ true → HasRoom query.body

-- each of these queries is
abbrev pub AreSmall : List TypedQuery → Type 0
AreSmall typed = AllByRecursion (λ (t : TypedQuery). IsSmallWhole t.query) typed
