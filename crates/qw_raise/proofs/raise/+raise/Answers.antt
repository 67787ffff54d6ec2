use Rattle.std.proofs.Common.{rules}
use Rattle.qw_scalar.specs.declared.expression.Expr.{the_lemmas}
use Rattle.qw_scalar.specs.Expression.{coalesced, largest_result}
use Rattle.qw_scalar.specs.Tree.{choices_of, expression_of, expressions_of, matches_of}
use Rattle.qw_scalar.proofs.CaseLemmas.{among_columns, among_typed, operand_columns, operand_typed, results_typed}
use Rattle.qw_raise.specs.Range.{IsSizedColumn}
use Rattle.qw_raise.proofs.raise.+raise.Goals as goal

pub condition_can_raise-expression-requires-in-In : goal.condition_can_raise-expression-requires-in-In
condition_can_raise-expression-requires-in-In t c =
    let operand = expression_of c.in-In.operand.value in
    let values = expressions_of c.in-In.list.value in
    let typed = rw c.in-In.is at c.requires.typed in
    let sized = rw c.in-In.is at c.requires.sized in
    (search (rules, the_lemmas), (rw c.deref-in-In-3.ensures (among_typed operand values typed), rw c.deref-in-In-3.ensures (among_columns IsSizedColumn operand values sized)))

pub expression-largest_branch-requires : goal.expression-largest_branch-requires
expression-largest_branch-requires t c =
    let choices = choices_of c.in-Case.list.value in
    let typed = rw c.in-Case.is at c.requires.typed in
    record { typed = rw c.deref-in-Case-2.ensures (results_typed (largest_result choices) choices typed) }

pub expression-expression-requires-in-Match : goal.expression-expression-requires-in-Match
expression-expression-requires-in-Match t c =
    let operand = expression_of c.in-Match.operand.value in
    let matches = c.in-Match.list.value in
    let typed = rw c.in-Match.is at c.requires.typed in
    let sized = rw c.in-Match.is at c.requires.sized in
    let to = largest_result (matches_of matches operand) in
    (search (rules, the_lemmas), (rw c.deref-in-Match-3.ensures (operand_typed to matches operand typed), rw c.deref-in-Match-3.ensures (operand_columns IsSizedColumn to matches operand sized)))

pub expression-largest_match-requires : goal.expression-largest_match-requires
expression-largest_match-requires t c =
    let matches = matches_of c.in-Match.list.value (expression_of c.in-Match.operand.value) in
    let typed = rw c.in-Match.is at c.requires.typed in
    record { typed = rw (c.deref-in-Match-4.ensures, c.deref-in-Match-5.ensures) (results_typed (largest_result matches) matches typed) }

pub expression-largest_argument-requires : goal.expression-largest_argument-requires
expression-largest_argument-requires t c =
    let choices = coalesced (expressions_of c.in-Call.list.value) in
    let typed = rw (c.in-Call.is, c.in-Coalesce.is) at c.requires.typed in
    record { typed = rw c.deref-in-Coalesce-2.ensures (results_typed (largest_result choices) choices typed) }
