use Rattle.qw_plain_grouped.proofs.Members.{members_few}
use Rattle.qw_plain_grouped.proofs.groups.members_of.Goals as goal

pub returns-clause-few : goal.returns-clause-few
returns-clause-few c = members_few c.args.columns c.args.key.now c.args.rows.now c.loop-row.members.items c.loop-row.row-index c.loop-row.invariant
