use Rattle.std.proofs.Common.{◌∙◌, codes}
use Rattle.std.specs.Fmt.{decimal}
use Rattle.qw_top.proofs.CauseLemmas.{pieces_4}
use Rattle.qw_top.proofs.causes.load_cause.Goals as goal

pub returns-in_ok-format-in-FieldCount : goal.returns-in_ok-format-in-FieldCount
returns-in_ok-format-in-FieldCount c =
    rw c.in-FieldCount.is (c.in_ok-format-in-FieldCount.ensures.ok ∙ pieces_4 c.args.file.now (codes " record ") (decimal c.in-FieldCount.row) (codes ": field count"))
