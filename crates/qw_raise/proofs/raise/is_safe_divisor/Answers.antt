use Rattle.std.proofs.Common.{sym}
use Rattle.qw_raise.proofs.TreeLemmas.{no_literal}
use Rattle.qw_raise.proofs.raise.is_safe_divisor.Goals as goal

pub returns-in_default : goal.returns-in_default
returns-in_default c = sym (no_literal c.args.expr.now c.in_default.not-Number)
