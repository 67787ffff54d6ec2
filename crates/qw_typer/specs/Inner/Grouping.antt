-- Mirrors src/grouping.rt and grouped.rt: the columns of GROUP BY, the set functions, and what stands over the grouped table, up to the first fault
-- that is met.
use Rattle.std.specs.Prelude.{◌≡◌, ◌≤◌, ◌+◌, ◌*◌, ℕ, List, [], ◌∷◌, length, map, sum_by, Some, Result, Ok}
use Rattle.qw_scalar.specs.declared.expression.Expr.{Expr}
use Rattle.qw_scalar.specs.Nodes as counted_nodes
use Rattle.qw_scalar.specs.Expression as meaning
use Rattle.qw_scalar.specs.Tree.{condition_of, expression_of}
use Rattle.qw_meaning.specs.Select as specified
use Rattle.qw_meaning.specs.Query.{source_of}
use Rattle.qw_grouped.specs.Grouped as group
use Rattle.qw_grouped.specs.Query as coded_query
use Rattle.qw_grouped.specs.declared.set_function.SetFunction as coded_function
use Rattle.qw_grouped.specs.Grouped.{type_of_function}
use Rattle.qw_grouped.specs.declared.query.GroupedColumn.{GroupedColumn}
use Rattle.qw_ast.specs.Limits.{items_of, over_filter, over_items, over_sources}
use Rattle.qw_ast.specs.Syntax.{Reference, Select, Selected, all_columns, items}
use Rattle.qw_typer.specs.Faults.{Fault, argument_faults, first_token}
use Rattle.qw_typer.specs.Functions.{Written, counted, applied, functions_in}
use Rattle.qw_typer.specs.Grouping.{as_grouped, kind_of_function, many_faults, place_of_function, rows_counted}
use Rattle.qw_typer.specs.Meant.{Entry, FunctionColumn, Grouping, Scope, ungrouped}
use Rattle.qw_typer.specs.declared.grouping.Placed as coded_functions
use Rattle.qw_typer.specs.declared.grouped.Groups as coded_groups
use Rattle.qw_typer.specs.declared.grouped.Behind as coded_behind
use Rattle.qw_grouped.specs.Query.{GroupedParts}
use Rattle.qw_grouped.specs.declared.whole.Body.{Body}
use Rattle.qw_grouped.specs.declared.whole.Body.TheVariants.{Plain, Grouped}
use Rattle.qw_typer.specs.Sizes.{grouped_nodes, grouped_octets, tests_on, text_octets}
use Rattle.qw_typer.specs.Inner.Sizes.{FitsItems, FitsQuery, FitsTests, column_count, most_items, nodes, nodes_condition, octets, octets_condition}
use Rattle.qw_typer.specs.Inner.Typing.{◌>>=◌, as_function, outcome, reference_outcome, typed, typed_filter, typed_list, typed_sources}

abbrev pub typed_column : List Entry → Reference → Result GroupedColumn Fault
typed_column entries r = do
  x ← reference_outcome entries r.qualifier r.name
  Ok (as_grouped x)

abbrev pub typed_columns : List Entry → List Reference → Result (List GroupedColumn) Fault
typed_columns entries [] = Ok []
typed_columns entries (r ∷ references) = do
  c ← typed_column entries r
  others ← typed_columns entries references
  Ok (c ∷ others)

abbrev pub typed_function : List Entry → Written → Result group.SetFunction Fault
typed_function entries (counted place) = Ok rows_counted
typed_function entries (applied place f a) = do
  x ← typed (ungrouped entries) a
  outcome (argument_faults (first_token a) f x) (record { kind = kind_of_function f; argument = x })

-- set functions, and the columns of the grouped table that they are
pub record Functions : Type 0 where
  pub functions : List group.SetFunction
  pub columns : List FunctionColumn

abbrev pub as_functions : coded_functions.Placed → Functions
as_functions made = record { functions = map coded_query.function_of made.functions.items; columns = map as_function made.columns.items }

abbrev pub column_for : Written → group.SetFunction → FunctionColumn
column_for w f = record { place = place_of_function w; ty = type_of_function f }

abbrev pub typed_functions : List Entry → List Written → Result Functions Fault
typed_functions entries [] = Ok (record { functions = []; columns = [] })
typed_functions entries (w ∷ written) = do
  f ← typed_function entries w
  others ← typed_functions entries written
  Ok (record { functions = f ∷ others.functions; columns = column_for w f ∷ others.columns })

-- what groups a query
pub record Groups : Type 0 where
  pub columns : List GroupedColumn
  pub functions : Functions

abbrev pub groups_of : coded_groups.Groups → Groups
groups_of made = record { columns = made.columns.items; functions = as_functions made.functions }

abbrev pub typed_groups : List Entry → Select → Result Groups Fault
typed_groups entries s = do
  columns ← typed_columns entries s.grouping
  functions ← typed_functions entries (functions_in s)
  outcome (many_faults (functions_in s)) (record { columns = columns; functions = functions })

-- the grouped table
abbrev pub table_of : Groups → Grouping
table_of groups = record { columns = groups.columns; functions = groups.functions.columns }

abbrev pub over_group : List Entry → Grouping → Scope
over_group entries grouping = record { entries = entries; grouping = Some grouping }

-- FROM, WHERE, and what stands over the grouped table
pub record Behind : Type 0 where
  pub sources : List specified.Source
  pub conjuncts : List meaning.Condition
  pub having : List meaning.Condition
  pub items : List meaning.Expression

abbrev pub behind_of : coded_behind.Behind → Behind
behind_of made = record { sources = map source_of made.sources.items; conjuncts = map condition_of made.conjuncts.items; having = map condition_of made.having.items; items = map expression_of made.items.items }

abbrev pub typed_behind : List Entry → Grouping → Select → Result Behind Fault
typed_behind entries grouping s = do
  is' ← typed_list (over_group entries grouping) s.selected
  sources ← typed_sources entries s.sources
  hs ← typed_filter (over_group entries grouping) s.having
  cs ← typed_filter (ungrouped entries) s.filter
  Ok (record { sources = sources; conjuncts = cs; having = hs; items = is' })

-- ---- sizes of arguments

abbrev pub argument_nodes : Written → ℕ
argument_nodes (counted place) = 1
argument_nodes (applied place f a) = nodes a

abbrev pub argument_octets : Written → ℕ
argument_octets (counted place) = 0
argument_octets (applied place f a) = octets a

abbrev pub arguments_nodes : List Written → ℕ
arguments_nodes written = sum_by argument_nodes written

abbrev pub arguments_octets : List Written → ℕ
arguments_octets written = sum_by argument_octets written

pub record FitsArgument (tree : Expr) (w : Written) : Type 0 where
  pub nodes_fit : counted_nodes.nodes tree ≤ argument_nodes w
  pub octets_fit : text_octets tree ≤ argument_octets w

pub record FitsArguments (functions : List coded_function.SetFunction) (n k : ℕ) : Type 0 where
  pub nodes_fit : sum_by (λ (f : coded_function.SetFunction). counted_nodes.nodes f.argument) functions ≤ n
  pub octets_fit : sum_by (λ (f : coded_function.SetFunction). text_octets f.argument) functions ≤ k

-- ---- sizes of grouped queries

-- `*` has each column of the entries
abbrev pub starred_nodes : List Entry → Selected → ℕ
starred_nodes entries all_columns = column_count entries
starred_nodes entries (items list) = over_items nodes list

pub record FitsGroups (made : coded_groups.Groups) (s : Select) : Type 0 where
  pub columns_are : length made.columns.items ≡ length s.grouping
  pub functions_are : length made.functions.functions.items ≡ length (functions_in s)
  pub few_functions : length (functions_in s) ≤ 128
  pub arguments : FitsArguments made.functions.functions.items (arguments_nodes (functions_in s)) (arguments_octets (functions_in s))

pub record FitsBehind (made : coded_behind.Behind) (entries : List Entry) (s : Select) : Type 0 where
  pub items_fit : FitsItems made.items.items (starred_nodes entries s.selected) (over_items octets (items_of s.selected))
  pub sources_fit : FitsTests (tests_on made.sources.items) (over_sources nodes_condition s.sources) (over_sources octets_condition s.sources)
  pub having_fits : FitsTests made.having.items (over_filter nodes_condition s.having) (over_filter octets_condition s.having)
  pub filter_fits : FitsTests made.conjuncts.items (over_filter nodes_condition s.filter) (over_filter octets_condition s.filter)

-- with COUNT(*) or without
pub record RowsAdded (before after : List coded_function.SetFunction) : Type 0 where
  pub nodes_few : sum_by (λ (f : coded_function.SetFunction). counted_nodes.nodes f.argument) after ≤ sum_by (λ (f : coded_function.SetFunction). counted_nodes.nodes f.argument) before + 1
  pub octets_are : sum_by (λ (f : coded_function.SetFunction). text_octets f.argument) after ≡ sum_by (λ (f : coded_function.SetFunction). text_octets f.argument) before
  pub length_few : length after ≤ length before + 1

-- `*` is at most the 64 columns of GROUP BY
abbrev pub listed_nodes : Selected → ℕ
listed_nodes all_columns = 64
listed_nodes (items list) = over_items nodes list

abbrev pub group_nodes : Select → ℕ
group_nodes s =
    listed_nodes s.selected + over_sources nodes_condition s.sources + over_filter nodes_condition s.filter + over_filter nodes_condition s.having + arguments_nodes (functions_in s) + 3 * length s.grouping + 2 * length (functions_in s) + 3

abbrev pub group_octets : Select → ℕ
group_octets s = over_items octets (items_of s.selected) + over_sources octets_condition s.sources + over_filter octets_condition s.filter + over_filter octets_condition s.having + arguments_octets (functions_in s)

pub record FitsGrouped (parts : GroupedParts) (s : Select) : Type 0 where
  pub few_functions : length (functions_in s) ≤ 128
  pub nodes_fit : grouped_nodes parts ≤ group_nodes s
  pub octets_fit : grouped_octets parts ≤ group_octets s

abbrev pub FitsBody : Body → Select → Type 0
FitsBody (Plain parts) s = FitsQuery parts s × (length parts.items ≤ most_items s.selected)
FitsBody (Grouped parts) s = FitsGrouped parts s × (length parts.items ≤ most_items s.selected)
