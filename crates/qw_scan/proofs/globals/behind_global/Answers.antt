use Rattle.qw_scan.proofs.Initials.{global_told}
use Rattle.qw_scan.proofs.globals.behind_global.Goals as goal

pub returns : goal.returns
returns c = global_told c.args.octets.now c.in-Ok.rest.now c.in-Ok-mutability_at.rest.now c.in-Ok.ty c.in-Ok-mutability_at.field-0-0 c.behind_constant.result c.in-Ok.ensures c.in-Ok-mutability_at.ensures c.behind_constant.ensures
