use Rattle.qw_scan.proofs.ExportLemmas.{kind_told}
use Rattle.qw_scan.proofs.exports.kind_at.Goals as goal

pub returns : goal.returns
returns c = λ e rest reads. kind_told c.args.octets.now c.in-Ok.rest.now c.in-Ok.field-0-0.now c.in-Ok-export_kind_at.field-0-1.now c.in-Ok-export_kind_at.kind c.in-Ok.ensures c.in-Ok-export_kind_at.ensures e rest reads
