use Rattle.std.proofs.Common.{◌∙◌}
use Rattle.qw_scan.proofs.ExportLemmas.{name_there}
use Rattle.qw_scan.proofs.exports.place_at.Goals as goal

pub returns : goal.returns
returns c = λ there.
    name_there c.args.octets.now c.from.result.now c.args.offset c.in-Ok.count c.in-Ok-try_from.start c.in-Ok.rest.now c.from.ensures c.in-Ok.ensures (c.in-Ok-try_from.ensures.1 ∙ c.saturating_sub-start.ensures) there
