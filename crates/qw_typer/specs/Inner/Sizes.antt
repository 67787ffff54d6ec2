-- Mirrors src/expression.rt, construct.rt, branch.rt and statement.rt: how many nodes they make of a query's trees, at most.
use Rattle.std.specs.Prelude.{◌≡◌, ℕ, ◌+◌, ◌≤◌, List, length, sum_by}
use Rattle.qw_scalar.specs.declared.expression.Expr.{Expr}
use Rattle.qw_scalar.specs.declared.expression.Cond.{Cond}
use Rattle.qw_scalar.specs.declared.expression.Exprs.{Exprs}
use Rattle.qw_scalar.specs.declared.expression.Branches.{Branches}
use Rattle.qw_scalar.specs.declared.expression.Matches.{Matches}
use Rattle.qw_scalar.specs.Nodes as typed
use Rattle.qw_ast.specs.Syntax.{Expression, null, number, text, date, column, signed, arithmetic, extract, searched_case, simple_case, call, count_rows, set_function, Condition, comparison, between, among, predicate, both, either, negation_of, is, bracketed, Clause, condition, expression, Expressions, last, further, Branching, otherwise, when, Selected, all_columns, items, Select}
use Rattle.qw_meaning.specs.Query.{QueryParts}
use Rattle.qw_ast.specs.Quoted.{string_value}
use Rattle.qw_ast.specs.Limits.{items_of, over_filter, over_items, over_sources}
use Rattle.qw_typer.specs.Meant.{Entry}
use Rattle.qw_typer.specs.Sizes.{all_nodes, all_octets, text_octets, text_octets_of, text_octets_of_all, text_octets_of_branches, text_octets_of_matches}

-- NULL is a node, and so is each argument of a list, each WHEN and ELSE, and a NOT in a predicate. A set function is a column of the grouped
-- table, and its argument stands elsewhere.
abbrev mutual
  pub nodes : Expression → ℕ
  nodes null = 1
  nodes (number digits) = 1
  nodes (text octets) = 1
  nodes (date octets intervals) = 1
  nodes (column qualifier name) = 1
  nodes (signed sign a) = 1 + nodes a
  nodes (arithmetic operator a b) = 1 + (nodes a + nodes b)
  nodes (extract field a) = 1 + nodes a
  nodes (searched_case branches) = 1 + nodes_branches branches
  nodes (simple_case x branches) = 1 + (nodes x + nodes_branches branches)
  nodes (call function es) = 1 + nodes_all es
  nodes (count_rows place) = 1
  nodes (set_function place f a) = 1

  pub nodes_condition : Condition → ℕ
  nodes_condition (comparison op a b) = 1 + (nodes a + nodes b)
  nodes_condition (between negated x a b) = 2 + (nodes x + (nodes a + nodes b))
  nodes_condition (among negated x es) = 2 + (nodes x + nodes_all es)
  nodes_condition (predicate p negated a) = 2 + nodes a
  nodes_condition (both c d) = 1 + (nodes_condition c + nodes_condition d)
  nodes_condition (either c d) = 1 + (nodes_condition c + nodes_condition d)
  nodes_condition (negation_of c) = 1 + nodes_condition c
  nodes_condition (is negated c truth) = 2 + nodes_condition c
  nodes_condition (bracketed c) = nodes_condition c

  pub nodes_clause : Clause → ℕ
  nodes_clause (condition c) = nodes_condition c
  nodes_clause (expression e) = nodes e

  pub nodes_all : Expressions → ℕ
  nodes_all (last e) = 1 + nodes e
  nodes_all (further e es) = 1 + (nodes e + nodes_all es)

  pub nodes_branches : Branching → ℕ
  nodes_branches (otherwise e) = 1 + nodes e
  nodes_branches (when c e rest) = 1 + (nodes_clause c + (nodes e + nodes_branches rest))

-- the same with the arguments of set functions
abbrev mutual
  pub weight : Expression → ℕ
  weight null = 1
  weight (number digits) = 1
  weight (text octets) = 1
  weight (date octets intervals) = 1
  weight (column qualifier name) = 1
  weight (signed sign a) = 1 + weight a
  weight (arithmetic operator a b) = 1 + (weight a + weight b)
  weight (extract field a) = 1 + weight a
  weight (searched_case branches) = 1 + weight_branches branches
  weight (simple_case x branches) = 1 + (weight x + weight_branches branches)
  weight (call function es) = 1 + weight_all es
  weight (count_rows place) = 1
  weight (set_function place f a) = 1 + nodes a

  pub weight_condition : Condition → ℕ
  weight_condition (comparison op a b) = 1 + (weight a + weight b)
  weight_condition (between negated x a b) = 2 + (weight x + (weight a + weight b))
  weight_condition (among negated x es) = 2 + (weight x + weight_all es)
  weight_condition (predicate p negated a) = 2 + weight a
  weight_condition (both c d) = 1 + (weight_condition c + weight_condition d)
  weight_condition (either c d) = 1 + (weight_condition c + weight_condition d)
  weight_condition (negation_of c) = 1 + weight_condition c
  weight_condition (is negated c truth) = 2 + weight_condition c
  weight_condition (bracketed c) = weight_condition c

  pub weight_clause : Clause → ℕ
  weight_clause (condition c) = weight_condition c
  weight_clause (expression e) = weight e

  pub weight_all : Expressions → ℕ
  weight_all (last e) = 1 + weight e
  weight_all (further e es) = 1 + (weight e + weight_all es)

  pub weight_branches : Branching → ℕ
  weight_branches (otherwise e) = 1 + weight e
  weight_branches (when c e rest) = 1 + (weight_clause c + (weight e + weight_branches rest))

-- the octets of text literals, but for those in arguments of set functions
abbrev mutual
  pub octets : Expression → ℕ
  octets null = 0
  octets (number digits) = 0
  octets (text string) = length (string_value string)
  octets (date string intervals) = 0
  octets (column qualifier name) = 0
  octets (signed sign a) = octets a
  octets (arithmetic operator a b) = octets a + octets b
  octets (extract field a) = octets a
  octets (searched_case branches) = octets_branches branches
  octets (simple_case x branches) = octets x + octets_branches branches
  octets (call function es) = octets_all es
  octets (count_rows place) = 0
  octets (set_function place f a) = 0

  pub octets_condition : Condition → ℕ
  octets_condition (comparison op a b) = octets a + octets b
  octets_condition (between negated x a b) = octets x + (octets a + octets b)
  octets_condition (among negated x es) = octets x + octets_all es
  octets_condition (predicate p negated a) = octets a
  octets_condition (both c d) = octets_condition c + octets_condition d
  octets_condition (either c d) = octets_condition c + octets_condition d
  octets_condition (negation_of c) = octets_condition c
  octets_condition (is negated c truth) = octets_condition c
  octets_condition (bracketed c) = octets_condition c

  pub octets_clause : Clause → ℕ
  octets_clause (condition c) = octets_condition c
  octets_clause (expression e) = octets e

  pub octets_all : Expressions → ℕ
  octets_all (last e) = octets e
  octets_all (further e es) = octets e + octets_all es

  pub octets_branches : Branching → ℕ
  octets_branches (otherwise e) = octets e
  octets_branches (when c e rest) = octets_clause c + (octets e + octets_branches rest)

-- `*` is at most 64 columns of each of 8 entries
abbrev pub selected_nodes : Selected → ℕ
selected_nodes all_columns = 512
selected_nodes (items list) = over_items nodes list

-- and so many items
abbrev pub most_items : Selected → ℕ
most_items all_columns = 512
most_items (items list) = length list

abbrev pub query_nodes : Select → ℕ
query_nodes s = selected_nodes s.selected + (over_sources nodes_condition s.sources + over_filter nodes_condition s.filter)

abbrev pub query_octets : Select → ℕ
query_octets s = over_items octets (items_of s.selected) + (over_sources octets_condition s.sources + over_filter octets_condition s.filter)

-- the columns of all entries
abbrev pub column_count : List Entry → ℕ
column_count entries = sum_by (λ (e : Entry). length e.columns) entries

-- ---- typed trees that have at most so many nodes, and so many octets in their text literals

pub record Fits (tree : Expr) (n k : ℕ) : Type 0 where
  pub nodes_fit : typed.nodes tree ≤ n
  pub octets_fit : text_octets tree ≤ k

pub record FitsCondition (tree : Cond) (n k : ℕ) : Type 0 where
  pub nodes_fit : typed.nodes_of tree ≤ n
  pub octets_fit : text_octets_of tree ≤ k

pub record FitsAll (tree : Exprs) (n k : ℕ) : Type 0 where
  pub nodes_fit : typed.nodes_of_all tree ≤ n
  pub octets_fit : text_octets_of_all tree ≤ k

pub record FitsBranches (tree : Branches) (n k : ℕ) : Type 0 where
  pub nodes_fit : typed.nodes_of_branches tree ≤ n
  pub octets_fit : text_octets_of_branches tree ≤ k

pub record FitsMatches (tree : Matches) (n k : ℕ) : Type 0 where
  pub nodes_fit : typed.nodes_of_matches tree ≤ n
  pub octets_fit : text_octets_of_matches tree ≤ k

pub record FitsTests (trees : List Cond) (n k : ℕ) : Type 0 where
  pub nodes_fit : sum_by typed.nodes_of trees ≤ n
  pub octets_fit : sum_by text_octets_of trees ≤ k

pub record FitsItems (trees : List Expr) (n k : ℕ) : Type 0 where
  pub nodes_fit : sum_by typed.nodes trees ≤ n
  pub octets_fit : sum_by text_octets trees ≤ k

-- items with so many columns more
pub record ColumnsPushed (before after : List Expr) (count : ℕ) : Type 0 where
  pub nodes_few : sum_by typed.nodes after ≤ sum_by typed.nodes before + count
  pub octets_are : sum_by text_octets after ≡ sum_by text_octets before

-- as many as the query has
pub record FitsQuery (parts : QueryParts) (s : Select) : Type 0 where
  pub nodes_fit : all_nodes parts ≤ query_nodes s
  pub octets_fit : all_octets parts ≤ query_octets s
