use Rattle.std.proofs.Common.{◌≤◌}
use Rattle.qw_ast.specs.declared.script.Branches.{size-Branches}
use Rattle.qw_ast.specs.declared.script.Cond.{size-Cond}
use Rattle.qw_ast.specs.declared.script.Expr.{size-Expr}
use Rattle.qw_ast.specs.declared.script.Exprs.{size-Exprs}
use Rattle.qw_ast.proofs.+script.Given as goal

abbrev pub invariant-script::Branches::drop-loop-self :
    goal.invariant-script::Branches::drop-loop-self
invariant-script::Branches::drop-loop-self l = size-Branches l.self ≤ size-Branches l.fn.self

abbrev pub invariant-script::Cond::drop-loop-self : goal.invariant-script::Cond::drop-loop-self
invariant-script::Cond::drop-loop-self l = size-Cond l.self ≤ size-Cond l.fn.self

abbrev pub invariant-script::Expr::drop-loop-self : goal.invariant-script::Expr::drop-loop-self
invariant-script::Expr::drop-loop-self l = size-Expr l.self ≤ size-Expr l.fn.self

abbrev pub invariant-script::Exprs::drop-loop-self : goal.invariant-script::Exprs::drop-loop-self
invariant-script::Exprs::drop-loop-self l = size-Exprs l.self ≤ size-Exprs l.fn.self
