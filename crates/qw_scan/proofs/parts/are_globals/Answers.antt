use Rattle.qw_scan.proofs.PartLemmas.{globals_told}
use Rattle.qw_scan.proofs.parts.are_globals.Goals as goal

pub returns : goal.returns
returns c = λ m same. globals_told c.args.octets.now c.args.outline c.args.tables.now c.requires m same c.globals_hold.result (c.globals_hold.ensures c.requires.outlined.globals)
