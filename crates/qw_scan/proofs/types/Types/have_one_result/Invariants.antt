use Rattle.qw_scan.proofs.TypeLemmas.{LeftDecide}
use Rattle.qw_scan.proofs.types.Types.have_one_result.Given as goal

abbrev pub invariant-loop-offset : goal.invariant-loop-offset
invariant-loop-offset l = LeftDecide l.self-inside.octets.now l.self-inside.offsets.now l.offset-index
