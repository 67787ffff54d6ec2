use Rattle.std.proofs.Common.{◌∙◌}
use Rattle.qw_valid.proofs.KindFacts.{any_taken}
use Rattle.qw_scan.proofs.stack.Stack.pop_arguments.Goals as goal

pub returns-then-are_any-clause-typed : goal.returns-then-are_any-clause-typed
returns-then-are_any-clause-typed c = c.loop-octet.invariant.taken ∙ any_taken _ c.loop-octet.self.known (c.are_any.ensures c.if-are_any.true)
