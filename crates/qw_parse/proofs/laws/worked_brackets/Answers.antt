use Rattle.std.proofs.Common.{◌∷◌, [], refl}
use Rattle.std.specs.Prelude.{codes}
use Rattle.qw_scalar.specs.declared.expression.Operator.TheVariants.{Add}
use Rattle.qw_scalar.specs.declared.comparison.Comparison.TheVariants.{Greater}
use Rattle.qw_ast.specs.Syntax.{arithmetic, both, bracketed, comparison, condition, number}
use Rattle.qw_parse.specs.Worked.{equals, n, s, the_column, w}
use Rattle.qw_parse.specs.Inner.Readers.{nested_at, clause_at, boolean_term_at, boolean_factor_at, test_at, truth_test_at, predicate_at, tail_at, ranged_at, between_at, compare_at, condition_clause, condition_at, expression_at, not_at, sum_at, term_at, factor_at, primary_at, brackets_at, column_at, as_clause, token_at, one_at, steps_within}
use Rattle.qw_parse.proofs.WorkedLemmas.{says_read}
use Rattle.qw_parse.proofs.laws.worked_brackets.Goals as goal

pub returns : goal.returns
unfolding nested_at clause_at boolean_term_at boolean_factor_at test_at truth_test_at predicate_at tail_at ranged_at between_at compare_at condition_clause condition_at expression_at not_at sum_at term_at factor_at primary_at brackets_at column_at as_clause token_at one_at steps_within
returns c = record {
  operand = says_read (s (codes "(") ∷ w (codes "a") ∷ s (codes ")") ∷ s (codes "=") ∷ n (codes "1") ∷ []) (condition (equals (codes "a") (codes "1"))) refl;
  predicate = says_read (s (codes "(") ∷ w (codes "a") ∷ s (codes "=") ∷ n (codes "1") ∷ s (codes ")") ∷ []) (condition (bracketed (equals (codes "a") (codes "1")))) refl;
  sum = says_read (s (codes "(") ∷ s (codes "(") ∷ w (codes "a") ∷ s (codes ")") ∷ s (codes "+") ∷ n (codes "1") ∷ s (codes ")") ∷ s (codes ">") ∷ n (codes "2") ∷ []) (condition (comparison Greater (arithmetic Add (the_column (codes "a")) (number (codes "1"))) (number (codes "2")))) refl;
  nested = says_read (s (codes "(") ∷ s (codes "(") ∷ w (codes "a") ∷ s (codes "=") ∷ n (codes "1") ∷ s (codes ")") ∷ w (codes "AND") ∷ w (codes "b") ∷ s (codes "=") ∷ n (codes "2") ∷ s (codes ")") ∷ []) (condition (bracketed (both (bracketed (equals (codes "a") (codes "1"))) (equals (codes "b") (codes "2"))))) refl;
}
