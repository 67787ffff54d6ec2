use Rattle.qw_scan.specs.Inner.Outlines.{contents_in}
use Rattle.qw_scan.proofs.SpelledModules.{is_spelled, is_stuck}
use Rattle.qw_scan.proofs.outline.outline_of.Goals as goal

pub returns-clause-spelled : goal.returns-clause-spelled
returns-clause-spelled c = is_spelled c.args.octets.now (contents_in c.args.octets.now) c.read_outline.result c.read_outline.ensures.contents

pub returns-clause-stuck : goal.returns-clause-stuck
returns-clause-stuck c = is_stuck c.args.octets.now (contents_in c.args.octets.now) c.read_outline.result c.read_outline.ensures.contents
