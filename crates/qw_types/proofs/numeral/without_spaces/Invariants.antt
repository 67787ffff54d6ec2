use Rattle.std.proofs.Common.{take, true, ◌≡◌}
use Rattle.qw_types.specs.Numeral.{are_spaces}
use Rattle.qw_types.proofs.numeral.without_spaces.Given as goal

abbrev pub invariant-loop-index : goal.invariant-loop-index
invariant-loop-index l = are_spaces (take l.index l.octets) ≡ true
