-- How large a query is, and which queries a script may have (ISO/IEC 9075:1992, 7.9, 7.7). The standard leaves the limits to the implementation.
use Rattle.std.specs.Prelude.{◌≤◌, ◌+◌, ℕ, Bool, true, false, List, [], ◌∷◌, length, map, Option, Some, None}
use Rattle.std.specs.List.{AllByRecursion, flat_map}
use Rattle.qw_token.specs.Token.{Lexeme}
use Rattle.qw_ast.specs.Quoted.{string_value}
use Rattle.qw_ast.specs.SchemaGrammar.{IsTooDeep}
use Rattle.qw_ast.specs.ScriptGrammar.{IsSelectOf}
use Rattle.qw_ast.specs.Syntax.{Expression, null, text, Condition, Clause, Expressions, Branching, SelectItem, Selected, all_columns, items, Entry, Joined, Source, Select}
use Rattle.qw_ast.specs.Walk.{Walk, walked, condition_walked, clause_walked, all_walked, branches_walked}

-- ---- how large a query is

-- Nodes: each literal, column reference, operator, predicate, function, set function and CASE. A date with its intervals is one literal;
-- the word NULL as a result is none, and brackets are none. The keys of ORDER BY are no nodes, and are counted by themselves.
abbrev pub leaf_nodes : Expression → ℕ
leaf_nodes null = 0
leaf_nodes leaf = 1

abbrev pub counting_nodes : Walk ℕ
counting_nodes = record { leaf = leaf_nodes; join = λ m n. m + n; made = λ n. 1 + n; function = λ place f a n. 1 + n }

abbrev pub nodes : Expression → ℕ
nodes e = walked counting_nodes e

abbrev pub nodes_condition : Condition → ℕ
nodes_condition c = condition_walked counting_nodes c

abbrev pub nodes_clause : Clause → ℕ
nodes_clause c = clause_walked counting_nodes c

abbrev pub nodes_all : Expressions → ℕ
nodes_all es = all_walked counting_nodes es

abbrev pub nodes_branches : Branching → ℕ
nodes_branches branches = branches_walked counting_nodes branches

-- the octets of the values of all character strings that are in no date
abbrev pub leaf_octets : Expression → ℕ
leaf_octets (text string) = length (string_value string)
leaf_octets leaf = 0

abbrev pub counting_octets : Walk ℕ
counting_octets = record { leaf = leaf_octets; join = λ m n. m + n; made = λ n. n; function = λ place f a n. n }

abbrev pub octets : Expression → ℕ
octets e = walked counting_octets e

abbrev pub octets_condition : Condition → ℕ
octets_condition c = condition_walked counting_octets c

abbrev pub octets_clause : Clause → ℕ
octets_clause c = clause_walked counting_octets c

abbrev pub octets_all : Expressions → ℕ
octets_all es = all_walked counting_octets es

abbrev pub octets_branches : Branching → ℕ
octets_branches branches = branches_walked counting_octets branches

-- the items of a select list; `*` is none
abbrev pub items_of : Selected → List SelectItem
items_of all_columns = []
items_of (items list) = list

-- the entries of a source, and of FROM, from left to right
abbrev pub entries_in : Source → List Entry
entries_in source = source.first ∷ map (λ (j : Joined). j.entry) source.joins

abbrev pub entries_of : List Source → List Entry
entries_of sources = flat_map entries_in sources

-- a number of each item, of the condition of each ON, and of the condition of WHERE or HAVING, in all
abbrev pub over_items : (Expression → ℕ) → List SelectItem → ℕ
over_items size [] = 0
over_items size (i ∷ others) = size i.value + over_items size others

abbrev pub over_joins : (Condition → ℕ) → List Joined → ℕ
over_joins size [] = 0
over_joins size (j ∷ others) = size j.on + over_joins size others

abbrev pub over_sources : (Condition → ℕ) → List Source → ℕ
over_sources size [] = 0
over_sources size (s ∷ others) = over_joins size s.joins + over_sources size others

abbrev pub over_filter : (Condition → ℕ) → Option Condition → ℕ
over_filter size None = 0
over_filter size (Some c) = size c

abbrev pub query_items : Select → ℕ
query_items s = length (items_of s.selected)

abbrev pub query_entries : Select → ℕ
query_entries s = length (entries_of s.sources)

-- the columns of GROUP BY
abbrev pub query_columns : Select → ℕ
query_columns s = length s.grouping

abbrev pub query_keys : Select → ℕ
query_keys s = length s.order

-- behind DISTINCT, `*` counts as the columns that it may stand for, 64 of each of 8 entries, since rows are told apart by each of them
abbrev pub starred_nodes : (distinct : Bool) → Selected → ℕ
starred_nodes false selected = 0
starred_nodes true all_columns = 512
starred_nodes true (items list) = 0

-- each column reference of GROUP BY is a node
abbrev pub query_nodes : Select → ℕ
query_nodes s =
    starred_nodes s.distinct s.selected + (over_items nodes (items_of s.selected) + (over_sources nodes_condition s.sources + (over_filter nodes_condition s.filter + (length s.grouping + over_filter nodes_condition s.having))))

abbrev pub query_octets : Select → ℕ
query_octets s = over_items octets (items_of s.selected) + (over_sources octets_condition s.sources + (over_filter octets_condition s.filter + over_filter octets_condition s.having))

-- ---- limits

-- the sizes of a query that are taken: the items of its select list, the entries of its FROM, the columns of its GROUP BY, the keys of
-- its ORDER BY, its nodes, the octets of its character strings
pub record AreTaken (items entries columns keys nodes octets : ℕ) : Type 0 where
  pub few_items : items ≤ 64
  pub few_entries : entries ≤ 8
  pub few_columns : columns ≤ 64
  pub few_keys : keys ≤ 64
  pub few_nodes : nodes ≤ 1000
  pub few_octets : octets ≤ 16384

-- how many statements a text may have
pub record IsScriptLength (statements : ℕ) : Type 0 where
  pub some : 1 ≤ statements
  pub few : statements ≤ 64

-- The tokens are this query, and it keeps each limit.
pub record IsAccepted (tokens : List Lexeme) (s : Select) : Type 0 where
  pub shallow : IsTooDeep tokens → ⊥
  pub query : IsSelectOf tokens s
  pub sizes : AreTaken (query_items s) (query_entries s) (query_columns s) (query_keys s) (query_nodes s) (query_octets s)
  pub open sizes use *

-- Some tokens are this query, and it keeps each limit.
abbrev pub IsQuery : Select → Type 0
IsQuery s = (tokens : List Lexeme) × IsAccepted tokens s

-- The queries are those of a script.
pub record AreQueries (queries : List Select) : Type 0 where
  pub length_is : IsScriptLength (length queries)
  pub each : AllByRecursion IsQuery queries
