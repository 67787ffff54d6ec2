use Rattle.qw_low.proofs.Appended.{if_ok}
use Rattle.qw_expr.proofs.Trees.{includes_same, on_made}
use Rattle.qw_expr.proofs.tree.emit_expr.Goals as goal

pub returns-clause-emits : goal.returns-clause-emits
returns-clause-emits c = if_ok _ _ c.expression.result (λ out made. made.emits _ (includes_same _) c.requires.served.0) c.expression.ensures

pub returns-clause-short : goal.returns-clause-short
returns-clause-short c = on_made _ _ c.expression.result (λ out made. made.short) c.expression.ensures
