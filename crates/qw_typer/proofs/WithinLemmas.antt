-- A query of a script has a source, few entries of FROM, few items and few conjuncts.
use Rattle.std.proofs.Common.{◌≡◌, ◌+◌, ◌≤◌, List, [], ◌∷◌, length, Option, Some, None, refl, arith}
use Rattle.std.specs.Option.{option_map_or}
use Rattle.std.specs.List.{flat_map}
use Rattle.std.proofs.lemmas.List.{length-append}
use Rattle.qw_token.specs.Token.{Lexeme}
use Rattle.qw_ast.specs.Limits.{IsQuery, items_of, nodes, nodes_condition, over_filter, over_items, over_joins, over_sources, query_nodes, starred_nodes}
use Rattle.qw_ast.specs.ScriptGrammar as grammar
use Rattle.qw_ast.specs.Syntax.{Clause, Condition, comparison, between, among, predicate, both, either, negation_of, is, bracketed, Joined, Selected, Select, Source}
use Rattle.qw_typer.specs.Typed.{HasFewItems, IsWithin, conjuncts_of}

-- each conjunct has a node
some_node : (c : Condition) → 1 ≤ nodes_condition c
some_node (comparison op a b) = omega arith
some_node (between negated x a b) = omega arith
some_node (among negated x es) = omega arith
some_node (predicate p negated a) = omega arith
some_node (both c d) = omega arith
some_node (either c d) = omega arith
some_node (negation_of c) = omega arith
some_node (is negated c t) = omega arith
some_node (bracketed c) = some_node c

node_each : (c : Condition) → length (conjuncts_of c) ≤ nodes_condition c
node_each (both c d) =
    let first = node_each c in
    let second = some_node d in
    rw (length-append (conjuncts_of c) (d ∷ [])) (omega (arith, first, second))
node_each (comparison op a b) = omega arith
node_each (between negated x a b) = omega arith
node_each (among negated x es) = omega arith
node_each (predicate p negated a) = omega arith
node_each (either c d) = omega arith
node_each (negation_of c) = omega arith
node_each (is negated c t) = omega arith
node_each (bracketed c) = some_node c

few_conjuncts : (o : Option Condition) → length (option_map_or conjuncts_of o []) ≤ over_filter nodes_condition o
few_conjuncts None = omega arith
few_conjuncts (Some c) = node_each c

few_in_joins : (js : List Joined) → length (flat_map (λ (j : Joined). conjuncts_of j.on) js) ≤ over_joins nodes_condition js
few_in_joins [] = omega arith
few_in_joins (j ∷ js) =
    let both = length-append (conjuncts_of j.on) (flat_map (λ (k : Joined). conjuncts_of k.on) js) in
    let first = node_each j.on in
    let others = few_in_joins js in
    omega (arith, both, first, others)

few_in_sources : (ss : List Source) → length (flat_map (λ (s : Source). flat_map (λ (j : Joined). conjuncts_of j.on) s.joins) ss) ≤ over_sources nodes_condition ss
few_in_sources [] = omega arith
few_in_sources (s ∷ ss) =
    let both = length-append (flat_map (λ (j : Joined). conjuncts_of j.on) s.joins) (flat_map (λ (t : Source). flat_map (λ (j : Joined). conjuncts_of j.on) t.joins) ss) in
    let first = few_in_joins s.joins in
    let others = few_in_sources ss in
    omega (arith, both, first, others)

-- a select list that is written has an item
has_items : (Inner : Clause → List Lexeme → List Lexeme → Type 0) (s : Select) (ts rest : List Lexeme) → grammar.IsSelect Inner s ts rest → length (items_of s.selected) ≤ 64 → HasFewItems s.selected
has_items Inner _ _ _ (grammar.a_select distinct selected sources filter grouping having order word from ts us vs ws xs ys zs rest is_select all list is_from are where_there groups having_there in_order) few = by_list selected us (from ∷ vs) list few
  where
    by_list : (selected : Selected) (us rest : List Lexeme) → grammar.IsSelectList Inner selected us rest → length (items_of selected) ≤ 64 → HasFewItems selected
    by_list _ _ _ (grammar.asterisk t rest star) few = tt
    by_list _ _ _ (grammar.some_items i more ts us rest first others) few = (omega arith, few)

-- FROM that is written has a source
has_source : (Inner : Clause → List Lexeme → List Lexeme → Type 0) (s : Select) (ts rest : List Lexeme) → grammar.IsSelect Inner s ts rest → 1 ≤ length s.sources
has_source Inner _ _ _ (grammar.a_select distinct selected sources filter grouping having order word from ts us vs ws xs ys zs rest is_select all list is_from are where_there groups having_there in_order) = by_sources sources vs ws are
  where
    by_sources : (sources : List Source) (vs ws : List Lexeme) → grammar.AreSources Inner sources vs ws → 1 ≤ length sources
    by_sources _ _ _ (grammar.some_sources s others ts us rest first further) = omega arith

pub is_within : (s : Select) → IsQuery s → IsWithin s
is_within s query =
    let accepted = query.1 in
    let conjuncts_fit = few_conjuncts s.filter in
    let nodes_fit = accepted.few_nodes in
    let all : query_nodes s
    ≡ starred_nodes s.distinct s.selected + (over_items nodes (items_of s.selected) + (over_sources nodes_condition s.sources + (over_filter nodes_condition s.filter + (length s.grouping + over_filter nodes_condition s.having)))) = refl in
    let having_fit = few_conjuncts s.having in
    let joined = few_in_sources s.sources in
    record {
      some_source = has_source (grammar.IsNested 33) s query.0 [] accepted.query;
      few_entries = accepted.few_entries;
      items = has_items (grammar.IsNested 33) s query.0 [] accepted.query accepted.few_items;
      few_columns = accepted.few_columns;
      conjuncts = omega (arith, conjuncts_fit, having_fit, joined, nodes_fit, all);
    }
