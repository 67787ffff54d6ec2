use Rattle.std.proofs.Common.{◌∷◌, [], Some, refl}
use Rattle.std.specs.Prelude.{codes}
use Rattle.qw_parse.specs.Worked.{all_from, alone, from, joined, left_joined, n, s, the_table, w}
use Rattle.qw_parse.specs.Inner.Readers.{select_of, select_at, select_list_at, quantifier_at, naming_at, filter_at, grouping_at, having_at, entry_at, join_at, inner_join_at, left_join_at, joined_at, joins_at, source_at, sources_at, order_at, further_at, condition_at, nested_at, clause_at, boolean_term_at, boolean_factor_at, test_at, truth_test_at, predicate_at, tail_at, ranged_at, between_at, compare_at, condition_clause, expression_at, not_at, sum_at, term_at, factor_at, primary_at, brackets_at, column_at, as_clause, token_at, one_at, steps_within}
use Rattle.qw_parse.proofs.AcceptLemmas.{not_read}
use Rattle.qw_parse.proofs.SelectLemmas.{select_read}
use Rattle.qw_parse.proofs.laws.worked_left_joins.Goals as goal

pub returns : goal.returns
unfolding select_of select_at select_list_at quantifier_at naming_at filter_at grouping_at having_at entry_at join_at inner_join_at left_join_at joined_at joins_at source_at sources_at order_at further_at condition_at nested_at clause_at boolean_term_at boolean_factor_at test_at truth_test_at predicate_at tail_at ranged_at between_at compare_at condition_clause expression_at not_at sum_at term_at factor_at primary_at brackets_at column_at as_clause token_at one_at steps_within
returns c = record {
  left_join =
      select_read (from (w (codes "a") ∷ w (codes "LEFT") ∷ w (codes "JOIN") ∷ w (codes "b") ∷ w (codes "ON") ∷ w (codes "k") ∷ s (codes "=") ∷ n (codes "1") ∷ []))
      (all_from (record { first = the_table (codes "a"); joins = left_joined (the_table (codes "b")) (codes "k") (codes "1") ∷ [] } ∷ [])) refl;
  left_outer_join =
      select_read (from (w (codes "a") ∷ w (codes "x") ∷ w (codes "left") ∷ w (codes "Outer") ∷ w (codes "join") ∷ w (codes "b") ∷ w (codes "y") ∷ w (codes "on") ∷ w (codes "k") ∷ s (codes "=") ∷ n (codes "1") ∷ s (codes ",") ∷ w (codes "c") ∷ []))
      (all_from (record { first = record { table = codes "a"; alias = Some (codes "x") }; joins = left_joined (record { table = codes "b"; alias = Some (codes "y") }) (codes "k") (codes "1") ∷ [] } ∷ alone (the_table (codes "c")) ∷ [])) refl;
  in_a_row =
      select_read (from (w (codes "a") ∷ w (codes "JOIN") ∷ w (codes "b") ∷ w (codes "ON") ∷ w (codes "k") ∷ s (codes "=") ∷ n (codes "1") ∷ w (codes "LEFT") ∷ w (codes "JOIN") ∷ w (codes "c") ∷ w (codes "ON") ∷ w (codes "k") ∷ s (codes "=") ∷ n (codes "2") ∷ w (codes "INNER") ∷ w (codes "JOIN") ∷ w (codes "d") ∷ w (codes "ON") ∷ w (codes "k") ∷ s (codes "=") ∷ n (codes "3") ∷ []))
      (all_from (record { first = the_table (codes "a"); joins = joined (the_table (codes "b")) (codes "k") (codes "1") ∷ left_joined (the_table (codes "c")) (codes "k") (codes "2") ∷ joined (the_table (codes "d")) (codes "k") (codes "3") ∷ [] } ∷ [])) refl;
  right_join = λ query is. not_read (from (w (codes "a") ∷ w (codes "RIGHT") ∷ w (codes "JOIN") ∷ w (codes "b") ∷ w (codes "ON") ∷ w (codes "k") ∷ s (codes "=") ∷ n (codes "1") ∷ [])) query refl is;
  full_join = λ query is. not_read (from (w (codes "a") ∷ w (codes "FULL") ∷ w (codes "OUTER") ∷ w (codes "JOIN") ∷ w (codes "b") ∷ w (codes "ON") ∷ w (codes "k") ∷ s (codes "=") ∷ n (codes "1") ∷ [])) query refl is;
  no_join = λ query is. not_read (from (w (codes "a") ∷ w (codes "LEFT") ∷ w (codes "b") ∷ w (codes "ON") ∷ w (codes "k") ∷ s (codes "=") ∷ n (codes "1") ∷ [])) query refl is;
  no_left = λ query is. not_read (from (w (codes "a") ∷ w (codes "OUTER") ∷ w (codes "JOIN") ∷ w (codes "b") ∷ w (codes "ON") ∷ w (codes "k") ∷ s (codes "=") ∷ n (codes "1") ∷ [])) query refl is;
  left_inner_join = λ query is. not_read (from (w (codes "a") ∷ w (codes "LEFT") ∷ w (codes "INNER") ∷ w (codes "JOIN") ∷ w (codes "b") ∷ w (codes "ON") ∷ w (codes "k") ∷ s (codes "=") ∷ n (codes "1") ∷ [])) query refl is;
  no_condition = λ query is. not_read (from (w (codes "a") ∷ w (codes "LEFT") ∷ w (codes "JOIN") ∷ w (codes "b") ∷ [])) query refl is;
}
