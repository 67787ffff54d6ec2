use Rattle.std.proofs.Common.{◌∙◌, codes}
use Rattle.std.specs.Fmt.{decimal}
use Rattle.qw_top.specs.Causes.{cell_cause}
use Rattle.qw_top.proofs.CauseLemmas.{pieces_7}
use Rattle.qw_top.proofs.causes.field_cause.Goals as goal

pub returns : goal.returns
returns c =
    rw c.cell_cause-why.ensures at c.in_ok-format.ensures.ok ∙ pieces_7 c.args.table.now (codes " record ") (decimal c.args.row) (codes " column ") c.args.column.now (codes ": ") (cell_cause c.args.fault)
