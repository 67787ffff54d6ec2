use Rattle.std.proofs.Common.{◌∙◌, codes}
use Rattle.std.specs.Fmt.{decimal}
use Rattle.qw_top.proofs.CauseLemmas.{pieces_4}
use Rattle.qw_top.proofs.causes.module_cause.Goals as goal

pub returns-in_ok-format-in-Body : goal.returns-in_ok-format-in-Body
returns-in_ok-format-in-Body c = rw c.in-Body.is (c.in_ok-format-in-Body.ensures.ok ∙ pieces_4 (codes "invalid function ") (decimal c.in-Body.func) (codes " at ") (decimal c.in-Body.at))
