-- What holds of the texts of a query's trees holds of the text literals of its select list, and of the arguments of set functions.
use Rattle.std.proofs.Common.{◌≡◌, ℕ, List, [], ◌∷◌, ◌++◌, map, sym, subst}
use Rattle.std.specs.List.{AllByRecursion, flat_map}
use Rattle.qw_scalar.specs.Tree.{expression_of}
use Rattle.qw_scalar.specs.declared.expression.Expr.{Expr}
use Rattle.qw_scalar.specs.Texts.{texts_in, texts_within}
use Rattle.qw_leaves.specs.Leaves.{HasLeaves, OfText, leaves_in, texts_among}
use Rattle.qw_leaves.specs.declared.leaf.Leaf.{Leaf}
use Rattle.qw_leaves.specs.declared.leaf.Leaf.TheVariants as leaf
use Rattle.qw_leaves.proofs.LeafLists.{all_back, all_front}
use Rattle.qw_leaves.proofs.TreeLeaves.{has_leaves}
use Rattle.qw_meaning.specs.Query.{QueryParts, query_of}
use Rattle.qw_meaning.specs.Select.{Specification}
use Rattle.qw_algebra.specs.Sizes.{tests_on}
use Rattle.qw_grouped.specs.Grouped.{Grouped, arguments_of, expression_of_column, front}
use Rattle.qw_grouped.specs.Query.{GroupedParts, grouped_of}
use Rattle.qw_compile.specs.WrittenTexts.{texts_of_query}
use Rattle.qw_compile.proofs.TextsWithin.{texts_there}
use Rattle.qw_compile_whole.specs.WholeTexts.{front_texts, texts_of_grouped}

module _ (P : List ℕ → Type 0) where
  of_texts : (ls : List Leaf) → AllByRecursion P (texts_among ls) → AllByRecursion (OfText P) ls
  of_texts [] h = tt
  of_texts (leaf.Column i ty ∷ ls) h = (tt, of_texts ls h)
  of_texts (leaf.Number v s ∷ ls) h = (tt, of_texts ls h)
  of_texts (leaf.Date d ∷ ls) h = (tt, of_texts ls h)
  of_texts (leaf.Text t ∷ ls) h = (h.0, of_texts ls h.1)

  pub item_texts : (e : Expr) → AllByRecursion P (texts_in e) → HasLeaves (OfText P) (expression_of e)
  item_texts e h = has_leaves (OfText P) e (of_texts (leaves_in e) (subst (AllByRecursion P) (sym (texts_there e)) h))

  items_texts : (es : List Expr) → AllByRecursion P (flat_map texts_in es) → AllByRecursion (HasLeaves (OfText P)) (map expression_of es)
  items_texts [] h = tt
  items_texts (e ∷ es) h = (item_texts e (all_front P (texts_in e) (flat_map texts_in es) h), items_texts es (all_back P (texts_in e) (flat_map texts_in es) h))

  -- a select list
  pub list_texts : (parts : QueryParts) → AllByRecursion P (texts_of_query parts) → AllByRecursion (HasLeaves (OfText P)) (query_of parts).items
  list_texts parts h =
      items_texts parts.items
      (all_back P (flat_map texts_within parts.conjuncts) (flat_map texts_in parts.items)
      (all_back P (flat_map texts_within (tests_on parts.sources)) (flat_map texts_within parts.conjuncts ++ flat_map texts_in parts.items) h))

  -- the arguments of set functions, which stand in that of what reaches the groups
  pub argument_texts : (parts : QueryParts) (query : Grouped) → query_of parts ≡ front query → AllByRecursion P (texts_of_query parts) → AllByRecursion (HasLeaves (OfText P)) (arguments_of query.functions)
  argument_texts parts query is h =
      all_back (HasLeaves (OfText P)) (map expression_of_column query.columns) (arguments_of query.functions)
      (subst (λ (s : Specification). AllByRecursion (HasLeaves (OfText P)) s.items) is (list_texts parts h))

  -- the select list of a grouped query
  pub group_list_texts : (parts : GroupedParts) → AllByRecursion P (texts_of_grouped parts) → AllByRecursion (HasLeaves (OfText P)) (grouped_of parts).items
  group_list_texts parts h =
      items_texts parts.items
      (all_back P (flat_map texts_within parts.having) (flat_map texts_in parts.items)
      (all_back P (front_texts parts) (flat_map texts_within parts.having ++ flat_map texts_in parts.items) h))
