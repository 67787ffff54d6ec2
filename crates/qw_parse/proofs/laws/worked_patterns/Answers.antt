use Rattle.std.proofs.Common.{◌∷◌, [], refl}
use Rattle.std.specs.Prelude.{codes}
use Rattle.qw_scalar.specs.declared.comparison.Comparison.TheVariants.{Like, NotLike}
use Rattle.qw_ast.specs.Syntax.{both, comparison, condition, negation_of, text}
use Rattle.qw_parse.specs.Worked.{from, n, quoted, s, the_column, w}
use Rattle.qw_parse.specs.Inner.Readers.{select_of, select_at, select_list_at, quantifier_at, item_at, naming_at, filter_at, grouping_at, reference_at, having_at, entry_at, join_at, inner_join_at, left_join_at, joins_at, source_at, sources_at, order_at, sort_at, key_at, direction_at, further_at, nested_at, clause_at, boolean_term_at, boolean_factor_at, test_at, truth_test_at, predicate_at, tail_at, ranged_at, between_at, compare_at, like_at, condition_clause, condition_at, expression_at, not_at, sum_at, term_at, factor_at, primary_at, set_function_at, rows_at, argument_at, before_at, behind_all, brackets_at, column_at, as_clause, token_at, one_at, steps_within}
use Rattle.qw_parse.proofs.AcceptLemmas.{not_read}
use Rattle.qw_parse.proofs.WorkedLemmas.{says_read}
use Rattle.qw_parse.proofs.laws.worked_patterns.Goals as goal

pub returns : goal.returns
unfolding nested_at clause_at boolean_term_at boolean_factor_at test_at truth_test_at predicate_at tail_at ranged_at between_at compare_at like_at condition_clause condition_at expression_at not_at sum_at term_at factor_at primary_at brackets_at column_at as_clause token_at one_at steps_within select_of select_at select_list_at quantifier_at item_at naming_at filter_at grouping_at reference_at having_at entry_at join_at inner_join_at left_join_at joins_at source_at sources_at order_at sort_at key_at direction_at further_at set_function_at rows_at argument_at before_at behind_all
returns c = record {
  like = says_read (w (codes "x") ∷ w (codes "LIKE") ∷ quoted (codes "'a%'") ∷ []) (condition (comparison Like (the_column (codes "x")) (text (codes "'a%'")))) refl;
  not_like = says_read (w (codes "x") ∷ w (codes "not") ∷ w (codes "like") ∷ quoted (codes "'a%'") ∷ []) (condition (comparison NotLike (the_column (codes "x")) (text (codes "'a%'")))) refl;
  both = says_read (w (codes "NOT") ∷ w (codes "x") ∷ w (codes "LIKE") ∷ quoted (codes "'a'") ∷ w (codes "AND") ∷ w (codes "y") ∷ w (codes "LIKE") ∷ quoted (codes "'b'") ∷ []) (condition (both (negation_of (comparison Like (the_column (codes "x")) (text (codes "'a'")))) (comparison Like (the_column (codes "y")) (text (codes "'b'"))))) refl;
  column = λ query is. not_read (from (w (codes "a") ∷ w (codes "WHERE") ∷ w (codes "x") ∷ w (codes "LIKE") ∷ w (codes "y") ∷ [])) query refl is;
  expression = λ query is. not_read (from (w (codes "a") ∷ w (codes "WHERE") ∷ w (codes "x") ∷ w (codes "LIKE") ∷ quoted (codes "'a'") ∷ s (codes "+") ∷ n (codes "1") ∷ [])) query refl is;
  escape = λ query is. not_read (from (w (codes "a") ∷ w (codes "WHERE") ∷ w (codes "x") ∷ w (codes "LIKE") ∷ quoted (codes "'a'") ∷ w (codes "ESCAPE") ∷ quoted (codes "'b'") ∷ [])) query refl is;
  nothing = λ query is. not_read (from (w (codes "a") ∷ w (codes "WHERE") ∷ w (codes "x") ∷ w (codes "NOT") ∷ w (codes "LIKE") ∷ [])) query refl is;
}
