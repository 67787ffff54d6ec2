use Rattle.std.proofs.Common.{◌∷◌, [], Some, refl}
use Rattle.std.specs.Prelude.{codes}
use Rattle.qw_scalar.specs.declared.expression.Operator.TheVariants.{Add}
use Rattle.qw_scalar.specs.declared.comparison.Comparison.TheVariants.{Greater}
use Rattle.qw_ast.specs.declared.script.Sign.TheVariants.{Minus}
use Rattle.qw_ast.specs.declared.script.SetFunction.TheVariants.{Avg, Count, Max, Min, Sum}
use Rattle.qw_ast.specs.Syntax.{arithmetic, column, comparison, condition, count_rows, expression, number, set_function, signed}
use Rattle.qw_parse.specs.Worked.{n, s, the_column, w}
use Rattle.qw_parse.specs.Inner.Readers.{nested_at, clause_at, boolean_term_at, boolean_factor_at, test_at, truth_test_at, predicate_at, tail_at, ranged_at, between_at, compare_at, condition_clause, condition_at, expression_at, not_at, sum_at, term_at, factor_at, primary_at, set_function_at, rows_at, argument_at, before_at, behind_all, brackets_at, column_at, as_clause, token_at, one_at, steps_within}
use Rattle.qw_parse.proofs.WorkedLemmas.{says_nothing, says_read}
use Rattle.qw_parse.proofs.laws.worked_set_functions.Goals as goal

pub returns : goal.returns
unfolding nested_at clause_at boolean_term_at boolean_factor_at test_at truth_test_at predicate_at tail_at ranged_at between_at compare_at condition_clause condition_at expression_at not_at sum_at term_at factor_at primary_at set_function_at rows_at argument_at before_at behind_all brackets_at column_at as_clause token_at one_at steps_within
returns c = record {
  rows = says_read (w (codes "COUNT") ∷ s (codes "(") ∷ s (codes "*") ∷ s (codes ")") ∷ []) (expression (count_rows 0)) refl;
  all = says_read (w (codes "SUM") ∷ s (codes "(") ∷ w (codes "ALL") ∷ w (codes "x") ∷ s (codes ")") ∷ []) (expression (set_function 0 Sum (the_column (codes "x")))) refl;
  argument = says_read (w (codes "avg") ∷ s (codes "(") ∷ s (codes "-") ∷ w (codes "x") ∷ s (codes "+") ∷ n (codes "1") ∷ s (codes ")") ∷ []) (expression (set_function 0 Avg (arithmetic Add (signed Minus (the_column (codes "x"))) (number (codes "1"))))) refl;
  qualified = says_read (w (codes "MIN") ∷ s (codes "(") ∷ w (codes "t") ∷ s (codes ".") ∷ w (codes "d") ∷ s (codes ")") ∷ []) (expression (set_function 0 Min (column (Some (codes "t")) (codes "d")))) refl;
  condition = says_read (w (codes "MAX") ∷ s (codes "(") ∷ w (codes "x") ∷ s (codes ")") ∷ s (codes ">") ∷ n (codes "1") ∷ []) (condition (comparison Greater (set_function 2 Max (the_column (codes "x"))) (number (codes "1")))) refl;
  nested = says_read (s (codes "(") ∷ w (codes "COUNT") ∷ s (codes "(") ∷ w (codes "x") ∷ s (codes ")") ∷ s (codes "+") ∷ w (codes "COUNT") ∷ s (codes "(") ∷ s (codes "*") ∷ s (codes ")") ∷ s (codes ")") ∷ []) (expression (arithmetic Add (set_function 6 Count (the_column (codes "x"))) (count_rows 1))) refl;
  nothing = λ clause says. says_nothing (w (codes "COUNT") ∷ s (codes "(") ∷ s (codes ")") ∷ []) clause refl says;
  no_rows = λ clause says. says_nothing (w (codes "SUM") ∷ s (codes "(") ∷ s (codes "*") ∷ s (codes ")") ∷ []) clause refl says;
  all_rows = λ clause says. says_nothing (w (codes "COUNT") ∷ s (codes "(") ∷ w (codes "ALL") ∷ s (codes "*") ∷ s (codes ")") ∷ []) clause refl says;
  distinct = λ clause says. says_nothing (w (codes "SUM") ∷ s (codes "(") ∷ w (codes "DISTINCT") ∷ w (codes "x") ∷ s (codes ")") ∷ []) clause refl says;
  two = λ clause says. says_nothing (w (codes "SUM") ∷ s (codes "(") ∷ w (codes "x") ∷ s (codes ",") ∷ w (codes "x") ∷ s (codes ")") ∷ []) clause refl says;
  no_brackets = λ clause says. says_nothing (w (codes "SUM") ∷ w (codes "x") ∷ []) clause refl says;
}
