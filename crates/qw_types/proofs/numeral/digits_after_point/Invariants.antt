use Rattle.qw_types.proofs.NumeralLemmas.{Fractions}
use Rattle.qw_types.proofs.numeral.digits_after_point.Given as goal

abbrev pub invariant-loop-count : goal.invariant-loop-count
invariant-loop-count l = Fractions l.whole l.scale l.octets l.count l.number l.fine
