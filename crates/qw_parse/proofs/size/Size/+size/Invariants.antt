use Rattle.std.proofs.Common.{◌≤◌}
use Rattle.qw_ast.specs.SyntaxTree.{expression_of, condition_of, expressions_of, branching_of}
use Rattle.qw_ast.specs.declared.script.Branches.{size-Branches}
use Rattle.qw_ast.specs.declared.script.Cond.{size-Cond}
use Rattle.qw_ast.specs.declared.script.Expr.{size-Expr}
use Rattle.qw_ast.specs.declared.script.Exprs.{size-Exprs}
use Rattle.qw_ast.specs.Limits.{nodes, octets, nodes_condition, octets_condition, nodes_all, octets_all, nodes_branches, octets_branches}
use Rattle.qw_parse.specs.Inner.Sizes.{GoesOn}
use Rattle.qw_parse.proofs.size.Size.+size.Given as goal

abbrev pub invariant-expression-loop-left : goal.invariant-expression-loop-left
invariant-expression-loop-left l =
    GoesOn l.fn.self (nodes (expression_of l.expression)) (octets (expression_of l.expression)) l.size (nodes (expression_of l.left)) (octets (expression_of l.left)) × (size-Expr l.left ≤ size-Expr l.expression)

abbrev pub invariant-condition-loop-left : goal.invariant-condition-loop-left
invariant-condition-loop-left l =
    GoesOn l.fn.self (nodes_condition (condition_of l.condition)) (octets_condition (condition_of l.condition)) l.size (nodes_condition (condition_of l.left)) (octets_condition (condition_of l.left)) × (size-Cond l.left ≤ size-Cond l.condition)

abbrev pub invariant-expressions-loop-rest : goal.invariant-expressions-loop-rest
invariant-expressions-loop-rest l =
    GoesOn l.fn.self (nodes_all (expressions_of l.expressions)) (octets_all (expressions_of l.expressions)) l.size (nodes_all (expressions_of l.rest)) (octets_all (expressions_of l.rest)) × (size-Exprs l.rest ≤ size-Exprs l.expressions)

abbrev pub invariant-branches-loop-rest : goal.invariant-branches-loop-rest
invariant-branches-loop-rest l =
    GoesOn l.fn.self (nodes_branches (branching_of l.branches)) (octets_branches (branching_of l.branches)) l.size (nodes_branches (branching_of l.rest)) (octets_branches (branching_of l.rest)) × (size-Branches l.rest ≤ size-Branches l.branches)
