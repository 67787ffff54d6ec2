use Rattle.std.proofs.Common.{arith}
use Rattle.qw_linear.proofs.GrowthFacts.{length-grown_by, grown_by-below, grown_by-above}
use Rattle.qw_linear.proofs.worked_laws.memory_of_two_more_pages.Goals as goal

pub returns-clause-length : goal.returns-clause-length
returns-clause-length c octets h = omega (arith, length-grown_by 2 octets)

pub returns-clause-pages : goal.returns-clause-pages
returns-clause-pages c octets h = omega (arith, length-grown_by 2 octets)

pub returns-clause-kept : goal.returns-clause-kept
returns-clause-kept c octets h = grown_by-below 2 octets 65535 (omega arith)

pub returns-clause-first : goal.returns-clause-first
returns-clause-first c octets h = grown_by-above 2 octets 65536 (omega arith)

pub returns-clause-last : goal.returns-clause-last
returns-clause-last c octets h = grown_by-above 2 octets 196607 (omega arith)
