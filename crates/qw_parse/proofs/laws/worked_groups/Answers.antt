use Rattle.std.proofs.Common.{◌∷◌, [], None, Some, refl}
use Rattle.std.specs.Prelude.{codes}
use Rattle.qw_scalar.specs.declared.comparison.Comparison.TheVariants.{Greater}
use Rattle.qw_ast.specs.Syntax.{comparison, count_rows, number}
use Rattle.qw_parse.specs.Worked.{all_grouped, by_name, from, n, reference_named, s, w}
use Rattle.qw_parse.specs.Inner.Readers.{select_of, select_at, select_list_at, quantifier_at, item_at, naming_at, filter_at, grouping_at, reference_at, having_at, entry_at, join_at, inner_join_at, left_join_at, joins_at, source_at, sources_at, order_at, sort_at, key_at, direction_at, further_at, nested_at, clause_at, boolean_term_at, boolean_factor_at, test_at, truth_test_at, predicate_at, tail_at, ranged_at, between_at, compare_at, condition_clause, condition_at, expression_at, not_at, sum_at, term_at, factor_at, primary_at, set_function_at, rows_at, argument_at, before_at, behind_all, brackets_at, column_at, as_clause, token_at, one_at, steps_within}
use Rattle.qw_parse.proofs.AcceptLemmas.{not_read}
use Rattle.qw_parse.proofs.SelectLemmas.{select_read}
use Rattle.qw_parse.proofs.laws.worked_groups.Goals as goal

pub returns : goal.returns
unfolding select_of select_at select_list_at quantifier_at item_at naming_at filter_at grouping_at reference_at having_at entry_at join_at inner_join_at left_join_at joins_at source_at sources_at order_at sort_at key_at direction_at further_at nested_at clause_at boolean_term_at boolean_factor_at test_at truth_test_at predicate_at tail_at ranged_at between_at compare_at condition_clause condition_at expression_at not_at sum_at term_at factor_at primary_at set_function_at rows_at argument_at before_at behind_all brackets_at column_at as_clause token_at one_at steps_within
returns c = record {
  columns = select_read (from (w (codes "a") ∷ w (codes "GROUP") ∷ w (codes "BY") ∷ w (codes "k") ∷ s (codes ",") ∷ w (codes "a") ∷ s (codes ".") ∷ w (codes "j") ∷ w (codes "ORDER") ∷ w (codes "BY") ∷ w (codes "k") ∷ [])) (all_grouped (reference_named (codes "k") ∷ record { qualifier = Some (codes "a"); name = codes "j" } ∷ []) None (by_name (codes "k") ∷ [])) refl;
  having = select_read (from (w (codes "a") ∷ w (codes "group") ∷ w (codes "by") ∷ w (codes "k") ∷ w (codes "having") ∷ w (codes "COUNT") ∷ s (codes "(") ∷ s (codes "*") ∷ s (codes ")") ∷ s (codes ">") ∷ n (codes "1") ∷ w (codes "ORDER") ∷ w (codes "BY") ∷ w (codes "k") ∷ [])) (all_grouped (reference_named (codes "k") ∷ []) (Some (comparison Greater (count_rows 5) (number (codes "1")))) (by_name (codes "k") ∷ [])) refl;
  having_alone = select_read (from (w (codes "a") ∷ w (codes "HAVING") ∷ w (codes "COUNT") ∷ s (codes "(") ∷ s (codes "*") ∷ s (codes ")") ∷ s (codes ">") ∷ n (codes "1") ∷ w (codes "ORDER") ∷ w (codes "BY") ∷ w (codes "k") ∷ [])) (all_grouped [] (Some (comparison Greater (count_rows 5) (number (codes "1")))) (by_name (codes "k") ∷ [])) refl;
  behind_having = λ query is. not_read (from (w (codes "a") ∷ w (codes "HAVING") ∷ w (codes "k") ∷ s (codes "=") ∷ n (codes "1") ∷ w (codes "GROUP") ∷ w (codes "BY") ∷ w (codes "k") ∷ [])) query refl is;
  behind_order = λ query is. not_read (from (w (codes "a") ∷ w (codes "ORDER") ∷ w (codes "BY") ∷ w (codes "k") ∷ w (codes "GROUP") ∷ w (codes "BY") ∷ w (codes "k") ∷ [])) query refl is;
  before_where = λ query is. not_read (from (w (codes "a") ∷ w (codes "GROUP") ∷ w (codes "BY") ∷ w (codes "k") ∷ w (codes "WHERE") ∷ w (codes "k") ∷ s (codes "=") ∷ n (codes "1") ∷ [])) query refl is;
  literal = λ query is. not_read (from (w (codes "a") ∷ w (codes "GROUP") ∷ w (codes "BY") ∷ n (codes "1") ∷ [])) query refl is;
  expression = λ query is. not_read (from (w (codes "a") ∷ w (codes "GROUP") ∷ w (codes "BY") ∷ w (codes "k") ∷ s (codes "+") ∷ n (codes "1") ∷ [])) query refl is;
  set_function = λ query is. not_read (from (w (codes "a") ∷ w (codes "GROUP") ∷ w (codes "BY") ∷ w (codes "COUNT") ∷ s (codes "(") ∷ s (codes "*") ∷ s (codes ")") ∷ [])) query refl is;
  no_column = λ query is. not_read (from (w (codes "a") ∷ w (codes "GROUP") ∷ w (codes "BY") ∷ [])) query refl is;
}
