use Rattle.std.proofs.Common.{◌∙◌}
use Rattle.qw_scan.proofs.StackLemmas.{empty_test}
use Rattle.qw_scan.proofs.stack.Stack.is_empty.Goals as goal

pub returns : goal.returns
returns c = rw (← c.self.view_is, c.len.ensures ∙ c.self.inside.kinds.ok.0) (empty_test c.self.inside.kinds.items c.self.inside.height c.self.invariant)
