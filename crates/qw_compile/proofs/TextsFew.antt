-- A short query has few text literals, and they have few octets.
use Rattle.std.proofs.Common.{◌≡◌, ◌≤◌, ℕ, List, [], ◌∷◌, ◌++◌, length, length-append, sum_by, ap, arith}
use Rattle.std.specs.List.{concat, flat_map}
use Rattle.std.proofs.lemmas.List.Sums.{sum_by-cons}
use Rattle.qw_scalar.specs.Nodes.{nodes, nodes_of}
use Rattle.qw_scalar.specs.declared.expression.Cond.{Cond}
use Rattle.qw_scalar.specs.declared.expression.Expr.{Expr}
use Rattle.qw_meaning.specs.Query.{QueryParts}
use Rattle.qw_scalar.specs.Texts.{texts_in, texts_within}
use Rattle.qw_algebra.specs.Sizes.{query_size, tests_on}
use Rattle.qw_leaves.specs.Leaves.{leaves_in, leaves_within}
use Rattle.qw_leaves.proofs.LeafLists.{each_few, texts_few}
use Rattle.qw_leaves.proofs.TreeLeaves.{condition_few, leaves_few}
use Rattle.qw_compile.specs.Limits.{IsShort}
use Rattle.qw_compile.specs.WrittenTexts.{texts_of_query}
use Rattle.qw_compile.proofs.TextsWithin.{query_weighs, texts_at, texts_there}

-- each is a node of its tree
in_expression : (e : Expr) → length (texts_in e) ≤ nodes e
in_expression e = omega (arith, ap (λ (l : List (List ℕ)). length l) (texts_there e), texts_few (leaves_in e), leaves_few e)

in_condition : (c : Cond) → length (texts_within c) ≤ nodes_of c
in_condition c = omega (arith, ap (λ (l : List (List ℕ)). length l) (texts_at c), texts_few (leaves_within c), condition_few c)

pub in_query : (parts : QueryParts) → length (texts_of_query parts) ≤ query_size nodes nodes_of parts
in_query parts =
    let on = each_few texts_within nodes_of (tests_on parts.sources) in_condition in
    let conjuncts = each_few texts_within nodes_of parts.conjuncts in_condition in
    let items = each_few texts_in nodes parts.items in_expression in
    let one = length-append (flat_map texts_within (tests_on parts.sources)) (flat_map texts_within parts.conjuncts ++ flat_map texts_in parts.items) in
    let two = length-append (flat_map texts_within parts.conjuncts) (flat_map texts_in parts.items) in
    omega (arith, on, conjuncts, items, one, two)

pub octets_are : (texts : List (List ℕ)) → length (concat texts) ≡ sum_by (λ (t : List ℕ). length t) texts
octets_are [] = omega arith
octets_are (t ∷ texts) = let rest = octets_are texts in omega (arith, rest, length-append t (concat texts), sum_by-cons (λ (u : List ℕ). length u) t texts)

pub few_texts : (parts : QueryParts) → IsShort parts → (length (texts_of_query parts) ≤ 4012) × (length (concat (texts_of_query parts)) ≤ 16384)
few_texts parts short =
    let nodes_few = short.few_nodes in
    let octets_few = short.few_octets in
    (omega (arith, in_query parts, nodes_few), omega (arith, octets_are (texts_of_query parts), query_weighs (λ (t : List ℕ). length t) parts, octets_few))
