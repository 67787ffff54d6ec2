use Rattle.std.proofs.Common.{◌∷◌, [], None, false, refl}
use Rattle.std.specs.Prelude.{codes}
use Rattle.qw_ast.specs.Syntax.{count_rows, items}
use Rattle.qw_parse.specs.Worked.{alone, s, the_table, w}
use Rattle.qw_parse.specs.Inner.Readers.{select_of, select_at, select_list_at, quantifier_at, item_at, naming_at, filter_at, grouping_at, reference_at, having_at, entry_at, join_at, inner_join_at, left_join_at, joins_at, source_at, sources_at, order_at, sort_at, key_at, direction_at, further_at, nested_at, clause_at, boolean_term_at, boolean_factor_at, test_at, truth_test_at, predicate_at, tail_at, ranged_at, between_at, compare_at, condition_clause, condition_at, expression_at, not_at, sum_at, term_at, factor_at, primary_at, set_function_at, rows_at, argument_at, before_at, behind_all, brackets_at, column_at, as_clause, token_at, one_at, steps_within}
use Rattle.qw_parse.proofs.SelectLemmas.{select_read}
use Rattle.qw_parse.proofs.laws.worked_places.Goals as goal

pub returns : goal.returns
unfolding select_of select_at select_list_at quantifier_at item_at naming_at filter_at grouping_at reference_at having_at entry_at join_at inner_join_at left_join_at joins_at source_at sources_at order_at sort_at key_at direction_at further_at nested_at clause_at boolean_term_at boolean_factor_at test_at truth_test_at predicate_at tail_at ranged_at between_at compare_at condition_clause condition_at expression_at not_at sum_at term_at factor_at primary_at set_function_at rows_at argument_at before_at behind_all brackets_at column_at as_clause token_at one_at steps_within
returns c = select_read (w (codes "SELECT") ∷ w (codes "COUNT") ∷ s (codes "(") ∷ s (codes "*") ∷ s (codes ")") ∷ s (codes ",") ∷ w (codes "COUNT") ∷ s (codes "(") ∷ s (codes "*") ∷ s (codes ")") ∷ w (codes "FROM") ∷ w (codes "a") ∷ []) (record { distinct = false; selected = items (record { value = count_rows 7; name = None } ∷ record { value = count_rows 2; name = None } ∷ []); sources = alone (the_table (codes "a")) ∷ []; filter = None; grouping = []; having = None; order = [] }) refl
