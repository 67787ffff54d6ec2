use Rattle.std.proofs.Common.{◌∷◌, [], false, refl}
use Rattle.std.specs.Prelude.{codes}
use Rattle.qw_scalar.specs.declared.comparison.Comparison.TheVariants.{Equal}
use Rattle.qw_ast.specs.Syntax.{between, both, comparison, condition, either, negation_of, number}
use Rattle.qw_parse.specs.Worked.{equals, n, s, the_column, w}
use Rattle.qw_parse.specs.Inner.Readers.{nested_at, clause_at, boolean_term_at, boolean_factor_at, test_at, truth_test_at, predicate_at, tail_at, ranged_at, between_at, compare_at, condition_clause, condition_at, expression_at, not_at, sum_at, term_at, factor_at, primary_at, brackets_at, column_at, as_clause, token_at, one_at, steps_within}
use Rattle.qw_parse.proofs.WorkedLemmas.{says_read}
use Rattle.qw_parse.proofs.laws.worked_conditions.Goals as goal

pub returns : goal.returns
unfolding nested_at clause_at boolean_term_at boolean_factor_at test_at truth_test_at predicate_at tail_at ranged_at between_at compare_at condition_clause condition_at expression_at not_at sum_at term_at factor_at primary_at brackets_at column_at as_clause token_at one_at steps_within
returns c = record {
  or_and = says_read (w (codes "a") ∷ s (codes "=") ∷ n (codes "1") ∷ w (codes "OR") ∷ w (codes "b") ∷ s (codes "=") ∷ n (codes "2") ∷ w (codes "AND") ∷ w (codes "NOT") ∷ w (codes "c") ∷ s (codes "=") ∷ n (codes "3") ∷ []) (condition (either (equals (codes "a") (codes "1")) (both (equals (codes "b") (codes "2")) (negation_of (equals (codes "c") (codes "3")))))) refl;
  between = says_read (w (codes "x") ∷ w (codes "BETWEEN") ∷ n (codes "1") ∷ w (codes "AND") ∷ n (codes "2") ∷ w (codes "AND") ∷ w (codes "y") ∷ s (codes "=") ∷ n (codes "3") ∷ []) (condition (both (between false (the_column (codes "x")) (number (codes "1")) (number (codes "2"))) (equals (codes "y") (codes "3")))) refl;
  not = says_read (w (codes "NOT") ∷ w (codes "a") ∷ s (codes "=") ∷ w (codes "b") ∷ []) (condition (negation_of (comparison Equal (the_column (codes "a")) (the_column (codes "b"))))) refl;
}
