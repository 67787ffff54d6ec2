use Rattle.std.proofs.Common.{◌∷◌, [], true, false, refl}
use Rattle.std.specs.Prelude.{codes}
use Rattle.qw_parse.specs.Worked.{a_of_t, of_t, s, w}
use Rattle.qw_parse.specs.Inner.Readers.{select_of, select_at, select_list_at, quantifier_at, item_at, naming_at, filter_at, grouping_at, reference_at, having_at, entry_at, join_at, inner_join_at, left_join_at, joins_at, source_at, sources_at, order_at, sort_at, key_at, direction_at, further_at, nested_at, clause_at, boolean_term_at, boolean_factor_at, test_at, truth_test_at, predicate_at, tail_at, ranged_at, between_at, compare_at, condition_clause, condition_at, expression_at, not_at, sum_at, term_at, factor_at, primary_at, set_function_at, rows_at, argument_at, before_at, behind_all, brackets_at, column_at, as_clause, token_at, one_at, steps_within}
use Rattle.qw_parse.proofs.AcceptLemmas.{not_read}
use Rattle.qw_parse.proofs.SelectLemmas.{select_read}
use Rattle.qw_parse.proofs.laws.worked_quantifiers.Goals as goal

pub returns : goal.returns
unfolding select_of select_at select_list_at quantifier_at item_at naming_at filter_at grouping_at reference_at having_at entry_at join_at inner_join_at left_join_at joins_at source_at sources_at order_at sort_at key_at direction_at further_at nested_at clause_at boolean_term_at boolean_factor_at test_at truth_test_at predicate_at tail_at ranged_at between_at compare_at condition_clause condition_at expression_at not_at sum_at term_at factor_at primary_at set_function_at rows_at argument_at before_at behind_all brackets_at column_at as_clause token_at one_at steps_within
returns c = record {
  distinct = select_read (of_t (w (codes "DISTINCT") ∷ w (codes "a") ∷ [])) (a_of_t true) refl;
  small = select_read (of_t (w (codes "distinct") ∷ w (codes "a") ∷ [])) (a_of_t true) refl;
  all = select_read (of_t (w (codes "ALL") ∷ w (codes "a") ∷ [])) (a_of_t false) refl;
  neither = select_read (of_t (w (codes "a") ∷ [])) (a_of_t false) refl;
  both = λ query is. not_read (of_t (w (codes "ALL") ∷ w (codes "DISTINCT") ∷ w (codes "a") ∷ [])) query refl is;
  twice = λ query is. not_read (of_t (w (codes "DISTINCT") ∷ w (codes "DISTINCT") ∷ w (codes "a") ∷ [])) query refl is;
  second = λ query is. not_read (of_t (w (codes "a") ∷ s (codes ",") ∷ w (codes "DISTINCT") ∷ w (codes "a") ∷ [])) query refl is;
}
