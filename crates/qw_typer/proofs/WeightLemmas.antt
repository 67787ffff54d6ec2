-- How large the typed trees of a query are, with the arguments of its set functions, which stand beside the trees that name them.
use Rattle.std.proofs.Common.{ℕ, ◌+◌, ◌≤◌, List, [], ◌∷◌, ◌++◌, length, Option, Some, None, arith}
use Rattle.std.specs.List.{flat_map}
use Rattle.std.specs.Option.{option_map_or}
use Rattle.std.proofs.lemmas.List.{length-append}
use Rattle.std.proofs.lemmas.List.Sums.{sum_by-append}
use Rattle.qw_ast.specs.Limits as script
use Rattle.qw_ast.specs.Limits.{items_of, over_filter, over_items, over_joins, over_sources}
use Rattle.qw_ast.specs.Syntax.{Expression, null, number, text, date, column, signed, arithmetic, extract, searched_case, simple_case, call, count_rows, set_function, Condition, comparison, between, among, predicate, both, either, negation_of, is, bracketed, Clause, condition, expression, Expressions, last, further, Branching, otherwise, when, SelectItem, Joined, Source, Select}
use Rattle.qw_typer.specs.Functions.{Written, functions_in, written, written_in, written_in_all, written_in_branches, written_in_clause}
use Rattle.qw_typer.specs.Inner.Grouping.{argument_nodes, argument_octets, arguments_nodes, arguments_octets}
use Rattle.qw_typer.specs.Inner.Sizes.{nodes, nodes_all, nodes_branches, nodes_clause, nodes_condition, octets, octets_all, octets_branches, octets_clause, octets_condition, weight, weight_all, weight_branches, weight_clause, weight_condition}

-- What is written with these set functions is typed with so many nodes and octets, where it weighs so much and is counted with so many octets. COUNT(*)
-- has an argument of one node.
pub record Weighs (typed_nodes typed_octets weight octets : ℕ) (functions : List Written) : Type 0 where
  pub few_nodes : typed_nodes ≤ weight
  pub few_with_arguments : typed_nodes + arguments_nodes functions ≤ weight + length functions
  pub few_octets : typed_octets + arguments_octets functions ≤ octets

none_more : Weighs 0 0 0 0 []
none_more = record { few_nodes = omega arith; few_with_arguments = omega arith; few_octets = omega arith }

leaf : (n : ℕ) → Weighs 1 n 1 n []
leaf n = record { few_nodes = omega arith; few_with_arguments = omega arith; few_octets = omega arith }

-- so many nodes more
above : {n o w m : ℕ} {fs : List Written} (k : ℕ) → Weighs n o w m fs → Weighs (k + n) o (k + w) m fs
above {fs = fs} k a = record { few_nodes = omega arith; few_with_arguments = omega arith; few_octets = a.few_octets }

-- one and the other
with_other : {n o w m n' o' w' m' : ℕ} {fs gs : List Written} → Weighs n o w m fs → Weighs n' o' w' m' gs → Weighs (n + n') (o + o') (w + w') (m + m') (fs ++ gs)
with_other {fs = fs} {gs = gs} a b =
    let argument_nodes_are = sum_by-append argument_nodes fs gs in
    let argument_octets_are = sum_by-append argument_octets fs gs in
    let length_is = length-append fs gs in
    record { few_nodes = omega arith; few_with_arguments = omega arith; few_octets = omega arith }

-- ---- what is written, and its arguments

mutual
  pub weighed : (x : Expression) → Weighs (nodes x) (octets x) (weight x) (script.octets x) (written x)
  weighed null = leaf 0
  weighed (number digits) = leaf 0
  weighed (text string) = leaf (octets (text string))
  weighed (date string intervals) = leaf 0
  weighed (column qualifier name) = leaf 0
  weighed (signed sign a) = above 1 (weighed a)
  weighed (arithmetic operator a b) = above 1 (with_other (weighed a) (weighed b))
  weighed (extract field a) = above 1 (weighed a)
  weighed (searched_case branches) = above 1 (weighed_branches branches)
  weighed (simple_case x branches) = above 1 (with_other (weighed x) (weighed_branches branches))
  weighed (call function es) = above 1 (weighed_all es)
  weighed (count_rows place) = record { few_nodes = omega arith; few_with_arguments = omega arith; few_octets = omega arith }
  weighed (set_function place f a) = let argument = weighed a in record { few_nodes = omega arith; few_with_arguments = omega arith; few_octets = omega arith }

  weighed_condition : (x : Condition) → Weighs (nodes_condition x) (octets_condition x) (weight_condition x) (script.octets_condition x) (written_in x)
  weighed_condition (comparison op a b) = above 1 (with_other (weighed a) (weighed b))
  weighed_condition (between negated x a b) = above 2 (with_other (weighed x) (with_other (weighed a) (weighed b)))
  weighed_condition (among negated x es) = above 2 (with_other (weighed x) (weighed_all es))
  weighed_condition (predicate p negated a) = above 2 (weighed a)
  weighed_condition (both c d) = above 1 (with_other (weighed_condition c) (weighed_condition d))
  weighed_condition (either c d) = above 1 (with_other (weighed_condition c) (weighed_condition d))
  weighed_condition (negation_of c) = above 1 (weighed_condition c)
  weighed_condition (is negated c truth) = above 2 (weighed_condition c)
  weighed_condition (bracketed c) = weighed_condition c

  weighed_clause : (x : Clause) → Weighs (nodes_clause x) (octets_clause x) (weight_clause x) (script.octets_clause x) (written_in_clause x)
  weighed_clause (condition c) = weighed_condition c
  weighed_clause (expression e) = weighed e

  weighed_all : (x : Expressions) → Weighs (nodes_all x) (octets_all x) (weight_all x) (script.octets_all x) (written_in_all x)
  weighed_all (last e) = above 1 (weighed e)
  weighed_all (further e es) = above 1 (with_other (weighed e) (weighed_all es))

  weighed_branches : (x : Branching) → Weighs (nodes_branches x) (octets_branches x) (weight_branches x) (script.octets_branches x) (written_in_branches x)
  weighed_branches (otherwise e) = above 1 (weighed e)
  weighed_branches (when c e rest) = above 1 (with_other (weighed_clause c) (with_other (weighed e) (weighed_branches rest)))

-- ---- the clauses of a query

pub weighed_items : (list : List SelectItem) → Weighs (over_items nodes list) (over_items octets list) (over_items weight list) (over_items script.octets list) (flat_map (λ (i : SelectItem). written i.value) list)
weighed_items [] = none_more
weighed_items (i ∷ list) = with_other (weighed i.value) (weighed_items list)

pub weighed_filter : (o : Option Condition) → Weighs (over_filter nodes_condition o) (over_filter octets_condition o) (over_filter weight_condition o) (over_filter script.octets_condition o) (option_map_or written_in o [])
weighed_filter None = none_more
weighed_filter (Some c) = weighed_condition c

pub weighed_functions : (s : Select) → Weighs (over_items nodes (items_of s.selected) + over_filter nodes_condition s.having) (over_items octets (items_of s.selected) + over_filter octets_condition s.having) (over_items weight (items_of s.selected) + over_filter weight_condition s.having) (over_items script.octets (items_of s.selected) + over_filter script.octets_condition s.having) (functions_in s)
weighed_functions s = with_other (weighed_items (items_of s.selected)) (weighed_filter s.having)

-- set functions of ON
abbrev functions_on : List Joined → List Written
functions_on joins = flat_map (λ (j : Joined). written_in j.on) joins

weighed_joins : (js : List Joined) → Weighs (over_joins nodes_condition js) (over_joins octets_condition js) (over_joins weight_condition js) (over_joins script.octets_condition js) (functions_on js)
weighed_joins [] = none_more
weighed_joins (j ∷ js) = with_other (weighed_condition j.on) (weighed_joins js)

pub weighed_sources : (ss : List Source) → Weighs (over_sources nodes_condition ss) (over_sources octets_condition ss) (over_sources weight_condition ss) (over_sources script.octets_condition ss) (flat_map (λ (s : Source). functions_on s.joins) ss)
weighed_sources [] = none_more
weighed_sources (s ∷ ss) = with_other (weighed_joins s.joins) (weighed_sources ss)
