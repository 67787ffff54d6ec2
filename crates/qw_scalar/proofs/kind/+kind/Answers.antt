use Rattle.std.proofs.Common.{rules}
use Rattle.qw_scalar.specs.declared.expression.Expr.{the_lemmas}
use Rattle.qw_scalar.specs.Expression.{coalesced, largest_result}
use Rattle.qw_scalar.specs.Tree.{choices_of, expression_of, expressions_of, matches_of}
use Rattle.qw_scalar.proofs.CaseLemmas.{results_typed}
use Rattle.qw_scalar.proofs.kind.+kind.Goals as goal

pub of_expression-of_branches-requires : goal.of_expression-of_branches-requires
of_expression-of_branches-requires t c =
    let choices = choices_of c.in-Case.branches.value in
    let typed = rw c.in-Case.is at c.requires.typed in
    (search (rules, the_lemmas), rw c.deref.ensures (results_typed (largest_result choices) choices typed))

pub of_expression-of_matches-requires : goal.of_expression-of_matches-requires
of_expression-of_matches-requires t c =
    let choices = matches_of c.in-Match.matches.value (expression_of c.in-Match.operand.value) in
    let typed = rw c.in-Match.is at c.requires.typed in
    (search (rules, the_lemmas), rw (c.deref-in-Match.ensures, c.deref-in-Match-2.ensures) (results_typed (largest_result choices) choices typed))

pub of_expression-of_arguments-requires : goal.of_expression-of_arguments-requires
of_expression-of_arguments-requires t c =
    let choices = coalesced (expressions_of c.in-Call.arguments.value) in
    let typed = rw (c.in-Call.is, c.in-Coalesce.is) at c.requires.typed in
    (search (rules, the_lemmas), rw c.deref-in-Coalesce.ensures (results_typed (largest_result choices) choices typed))
