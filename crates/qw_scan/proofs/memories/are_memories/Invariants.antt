use Rattle.qw_module.specs.Validity.{IsValidMemory}
use Rattle.qw_binary.specs.Types.{limits}
use Rattle.qw_scan.proofs.TestLemmas.{StillTells}
use Rattle.qw_scan.proofs.memories.are_memories.Given as goal

-- the memories that are left decide
abbrev pub invariant-loop : goal.invariant-loop
invariant-loop l = StillTells limits IsValidMemory l.count l.counter l.octets l.rest
