use Rattle.std.proofs.Common.{rules}
use Rattle.qw_scan.proofs.SameOver.{content_none}
use Rattle.qw_scan.proofs.over.behind_content.Goals as goal

pub returns-in_default : goal.returns-in_default
returns-in_default c = content_none c.args.own c.args.id c.args.octets.now (search rules) (search rules) (search rules) (search rules) (search rules) (search rules) (search rules)
