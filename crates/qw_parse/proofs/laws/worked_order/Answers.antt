use Rattle.std.proofs.Common.{◌∷◌, [], false, true, refl}
use Rattle.std.specs.Prelude.{codes}
use Rattle.qw_ast.specs.Syntax.{ordinal}
use Rattle.qw_parse.specs.Worked.{all_in_order, from, key_named, n, s, w}
use Rattle.qw_parse.specs.Inner.Readers.{select_of, select_at, select_list_at, quantifier_at, naming_at, filter_at, grouping_at, having_at, entry_at, join_at, inner_join_at, left_join_at, joined_at, joins_at, source_at, sources_at, order_at, sort_at, key_at, direction_at, further_at, condition_at, nested_at, clause_at, boolean_term_at, boolean_factor_at, test_at, truth_test_at, predicate_at, tail_at, ranged_at, between_at, compare_at, condition_clause, expression_at, not_at, sum_at, term_at, factor_at, primary_at, brackets_at, column_at, as_clause, token_at, one_at, steps_within}
use Rattle.qw_parse.proofs.AcceptLemmas.{not_read}
use Rattle.qw_parse.proofs.SelectLemmas.{select_read}
use Rattle.qw_parse.proofs.laws.worked_order.Goals as goal

pub returns : goal.returns
unfolding select_of select_at select_list_at quantifier_at naming_at filter_at grouping_at having_at entry_at join_at inner_join_at left_join_at joined_at joins_at source_at sources_at order_at sort_at key_at direction_at further_at condition_at nested_at clause_at boolean_term_at boolean_factor_at test_at truth_test_at predicate_at tail_at ranged_at between_at compare_at condition_clause expression_at not_at sum_at term_at factor_at primary_at brackets_at column_at as_clause token_at one_at steps_within
returns c = record {
  ascending = select_read (from (w (codes "a") ∷ w (codes "ORDER") ∷ w (codes "BY") ∷ w (codes "k") ∷ [])) (all_in_order (record { key = key_named (codes "k"); is_descending = false } ∷ [])) refl;
  keys =
      select_read (from (w (codes "a") ∷ w (codes "order") ∷ w (codes "by") ∷ n (codes "2") ∷ w (codes "desc") ∷ s (codes ",") ∷ w (codes "k") ∷ w (codes "ASC") ∷ s (codes ",") ∷ w (codes "x") ∷ []))
      (all_in_order (record { key = ordinal (codes "2"); is_descending = true } ∷ record { key = key_named (codes "k"); is_descending = false } ∷ record { key = key_named (codes "x"); is_descending = false } ∷ [])) refl;
  qualified = λ query is. not_read (from (w (codes "a") ∷ w (codes "ORDER") ∷ w (codes "BY") ∷ w (codes "a") ∷ s (codes ".") ∷ w (codes "k") ∷ [])) query refl is;
  further_qualified = λ query is. not_read (from (w (codes "a") ∷ w (codes "ORDER") ∷ w (codes "BY") ∷ w (codes "k") ∷ s (codes ",") ∷ w (codes "a") ∷ s (codes ".") ∷ w (codes "k") ∷ w (codes "DESC") ∷ [])) query refl is;
  expression = λ query is. not_read (from (w (codes "a") ∷ w (codes "ORDER") ∷ w (codes "BY") ∷ w (codes "k") ∷ s (codes "+") ∷ n (codes "1") ∷ [])) query refl is;
  point = λ query is. not_read (from (w (codes "a") ∷ w (codes "ORDER") ∷ w (codes "BY") ∷ n (codes "1.") ∷ [])) query refl is;
  sign = λ query is. not_read (from (w (codes "a") ∷ w (codes "ORDER") ∷ w (codes "BY") ∷ s (codes "-") ∷ n (codes "1") ∷ [])) query refl is;
  both_directions = λ query is. not_read (from (w (codes "a") ∷ w (codes "ORDER") ∷ w (codes "BY") ∷ w (codes "k") ∷ w (codes "ASC") ∷ w (codes "DESC") ∷ [])) query refl is;
  no_key = λ query is. not_read (from (w (codes "a") ∷ w (codes "ORDER") ∷ w (codes "BY") ∷ [])) query refl is;
  before_where = λ query is. not_read (from (w (codes "a") ∷ w (codes "ORDER") ∷ w (codes "BY") ∷ w (codes "k") ∷ w (codes "WHERE") ∷ w (codes "k") ∷ s (codes "=") ∷ n (codes "1") ∷ [])) query refl is;
}
