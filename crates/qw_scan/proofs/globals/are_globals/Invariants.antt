use Rattle.qw_binary.specs.Sections.{global}
use Rattle.qw_scan.specs.Inner.Initial.{HasInitial}
use Rattle.qw_scan.proofs.TestLemmas.{StillTells}
use Rattle.qw_scan.proofs.globals.are_globals.Given as goal

-- the globals that are left decide
abbrev pub invariant-loop : goal.invariant-loop
invariant-loop l = StillTells global HasInitial l.count l.counter l.octets l.rest
