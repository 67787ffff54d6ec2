use Rattle.std.proofs.Common.{arith, rules}
use Rattle.qw_scalar.specs.declared.expression.Expr.{the_lemmas}
use Rattle.qw_scalar.specs.Columns.{HoldsIn}
use Rattle.qw_scalar.specs.Expression.{largest_result}
use Rattle.qw_scalar.specs.Tree.{expression_of, expressions_of, matches_of}
use Rattle.qw_scalar.proofs.CaseLemmas.{among_columns, among_raises, among_typed, operand_columns, operand_raises, operand_typed, results_typed}
use Rattle.qw_scalar.proofs.evaluate.+evaluate.Goals as goal

pub value-value-requires-in-Match : goal.value-value-requires-in-Match
value-value-requires-in-Match t c =
    let operand = expression_of c.in-Match.operand.value in
    let matches = c.in-Match.matches.value in
    let typed = rw c.in-Match.is at c.requires.typed in
    let columns = rw c.in-Match.is at c.requires.columns in
    let to = largest_result (matches_of matches operand) in
    (search (rules, the_lemmas), (rw c.deref-in-Match.ensures (operand_typed to matches operand typed), rw c.deref-in-Match.ensures (operand_columns (HoldsIn c.args.row.now) to matches operand columns)))

pub condition-value-requires-in-In : goal.condition-value-requires-in-In
condition-value-requires-in-In t c =
    let operand = expression_of c.in-In.operand.value in
    let values = expressions_of c.in-In.values.value in
    let typed = rw c.in-In.is at c.requires.typed in
    let columns = rw c.in-In.is at c.requires.columns in
    (search (rules, the_lemmas), (rw c.deref-in-In.ensures (among_typed operand values typed), rw c.deref-in-In.ensures (among_columns (HoldsIn c.args.row.now) operand values columns)))

-- the scale of a choice is asked where its results are typed
pub value-largest_branch-requires : goal.value-largest_branch-requires
value-largest_branch-requires t c = grind (arith, results_typed)

pub value-largest_match-requires : goal.value-largest_match-requires
value-largest_match-requires t c = grind (arith, results_typed)

pub value-largest_argument-requires : goal.value-largest_argument-requires
value-largest_argument-requires t c = grind (arith, results_typed)

-- an exception of the operand is the choice's, or the condition's
pub value-returns-in_err-x-in-Match-clause-value : goal.value-returns-in_err-x-in-Match-clause-value
value-returns-in_err-x-in-Match-clause-value t c = grind (arith, operand_raises)

pub condition-returns-in_err-x-in-In : goal.condition-returns-in_err-x-in-In
condition-returns-in_err-x-in-In t c = grind (arith, among_raises)
