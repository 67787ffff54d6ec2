use Rattle.std.proofs.Common.{arith}
use Rattle.qw_linear.proofs.ClearedFacts.{length-cleared, cleared-before, cleared-new, cleared-behind}
use Rattle.qw_linear.proofs.worked_laws.memory_of_a_cleared_page.Goals as goal

pub returns-clause-length : goal.returns-clause-length
returns-clause-length c octets h = omega (arith, h, length-cleared 1 1 octets (omega (arith, h)))

pub returns-clause-before : goal.returns-clause-before
returns-clause-before c octets h = cleared-before 1 1 octets (omega (arith, h)) 65535 (omega arith)

pub returns-clause-first : goal.returns-clause-first
returns-clause-first c octets h = cleared-new 1 1 octets (omega (arith, h)) 65536 (omega arith) (omega arith)

pub returns-clause-last : goal.returns-clause-last
returns-clause-last c octets h = cleared-new 1 1 octets (omega (arith, h)) 131071 (omega arith) (omega arith)

pub returns-clause-behind : goal.returns-clause-behind
returns-clause-behind c octets h = cleared-behind 1 1 octets (omega (arith, h)) 131072 (omega arith)
