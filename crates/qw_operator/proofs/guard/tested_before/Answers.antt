use Rattle.qw_operator.proofs.StrictLemmas.{tested_are}
use Rattle.qw_operator.proofs.guard.tested_before.Goals as goal

pub returns : goal.returns
returns c =
    tested_are c.args.cond.now c.in-Some.head.now.left c.in-Some.head.now.end c.args.readers.now c.in_ok-tested.tested.items c.in_ok-tested.ensures (c.in_ok-is_quiet.ensures c.if-not-branch.false)
