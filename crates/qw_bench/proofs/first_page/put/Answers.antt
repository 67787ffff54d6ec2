use Rattle.std.proofs.Common.{◌+◌, ◌≤◌, arith, length, refl}
use Rattle.qw_linear.proofs.AccessFacts.{AreOctets-stored, length-stored, stored-inside}
use Rattle.qw_bench.proofs.first_page.put.Goals as goal

pub returns-clause-stored : goal.returns-clause-stored
returns-clause-stored c =
    let inside : c.from.result + 4 ≤ length c.args.memory.now.octets = omega (arith, c.from.ensures, c.requires) in
    rw (c.store32.ensures.stored, stored-inside c.args.memory.now.octets c.from.result 4 c.from-2.result inside, c.from.ensures, c.from-2.ensures) refl

pub returns-clause-octets : goal.returns-clause-octets
returns-clause-octets c are =
    rw c.store32.ensures.stored (AreOctets-stored c.args.memory.now.octets are c.from.result 4 c.from-2.result)

pub returns-clause-len : goal.returns-clause-len
returns-clause-len c = rw c.store32.ensures.stored (length-stored c.args.memory.now.octets c.from.result 4 c.from-2.result)
