use Rattle.std.proofs.Common.{◌∙◌}
use Rattle.qw_valid.proofs.KindFacts.{any_taken}
use Rattle.qw_valid.proofs.operands.Operands.pop_arguments.Goals as goal

pub returns-then-are_any : goal.returns-then-are_any
returns-then-are_any c = c.loop-ty.invariant ∙ any_taken _ c.loop-ty.self (c.are_any.ensures c.if-are_any.true)
