use Rattle.std.proofs.Common.{◌∷◌, [], refl}
use Rattle.std.specs.Prelude.{codes}
use Rattle.qw_scalar.specs.declared.expression.Operator.TheVariants.{Multiply, Subtract}
use Rattle.qw_ast.specs.declared.script.Sign.TheVariants.{Minus}
use Rattle.qw_ast.specs.Syntax.{arithmetic, expression, number, signed}
use Rattle.qw_parse.specs.Worked.{n, s, the_column, w}
use Rattle.qw_parse.specs.Inner.Readers.{nested_at, clause_at, boolean_term_at, boolean_factor_at, test_at, truth_test_at, predicate_at, tail_at, ranged_at, between_at, compare_at, condition_clause, condition_at, expression_at, not_at, sum_at, term_at, factor_at, primary_at, brackets_at, column_at, as_clause, token_at, one_at, steps_within}
use Rattle.qw_parse.proofs.WorkedLemmas.{says_read}
use Rattle.qw_parse.proofs.laws.worked_expressions.Goals as goal

pub returns : goal.returns
unfolding nested_at clause_at boolean_term_at boolean_factor_at test_at truth_test_at predicate_at tail_at ranged_at between_at compare_at condition_clause condition_at expression_at not_at sum_at term_at factor_at primary_at brackets_at column_at as_clause token_at one_at steps_within
returns c = record {
  left = says_read (n (codes "1") ∷ s (codes "-") ∷ n (codes "2") ∷ s (codes "-") ∷ n (codes "3") ∷ []) (expression (arithmetic Subtract (arithmetic Subtract (number (codes "1")) (number (codes "2"))) (number (codes "3")))) refl;
  sign = says_read (s (codes "-") ∷ w (codes "a") ∷ s (codes "*") ∷ w (codes "b") ∷ []) (expression (arithmetic Multiply (signed Minus (the_column (codes "a"))) (the_column (codes "b")))) refl;
}
