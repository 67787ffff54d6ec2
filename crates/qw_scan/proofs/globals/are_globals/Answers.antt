use Rattle.qw_scan.specs.Inner.Initial.{HasInitial}
use Rattle.qw_binary.specs.Sections.{global}
use Rattle.qw_scan.proofs.TestLemmas.{still_first, still_more, still_not, still_none}
use Rattle.qw_scan.proofs.globals.are_globals.Goals as goal

pub loop-init : goal.loop-init
loop-init c = still_first global HasInitial c.args.count c.args.octets.now

pub returns-in-Err-IllTyped : goal.returns-in-Err-IllTyped
returns-in-Err-IllTyped c =
    still_not global HasInitial c.args.count c.loop.counter c.args.octets.now c.loop.rest.now c.loop-test.true (rw c.in-Err-IllTyped.field-0-is at c.in-Err-IllTyped.ensures) c.loop.invariant

pub loop-preserved : goal.loop-preserved
loop-preserved c = still_more global HasInitial c.args.count c.loop.counter c.args.octets.now c.loop.rest.now c.in-Ok.after c.loop-test.true c.in-Ok.ensures c.loop.invariant

pub returns : goal.returns
returns c = still_none global HasInitial c.args.count c.loop.counter c.args.octets.now c.loop.rest.now c.loop-test.false c.loop.invariant
