use Rattle.std.proofs.Common.{◌∙◌, codes}
use Rattle.qw_top.proofs.CauseLemmas.{pieces_4}
use Rattle.qw_top.proofs.causes.line_on.Goals as goal

pub returns : goal.returns
returns c = c.in_ok-format.ensures.ok ∙ pieces_4 c.args.told.now (codes ": ") c.args.words.now (codes "\n")
