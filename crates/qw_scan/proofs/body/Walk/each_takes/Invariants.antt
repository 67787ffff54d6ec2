use Rattle.std.proofs.Common.{map}
use Rattle.qw_module.specs.Typing.{types_of}
use Rattle.qw_valid.specs.Inner.Checking.{taken_in}
use Rattle.qw_scan.specs.Inner.Walking.{around_in}
use Rattle.qw_scan.proofs.Labels.{StillDecides}
use Rattle.qw_scan.proofs.body.Walk.each_takes.Given as goal

-- the labels that are still to be tested decide
abbrev pub invariant-loop : goal.invariant-loop
invariant-loop l = StillDecides (map taken_in (around_in l.self)) (types_of l.taken) l.count l.counter l.octets l.rest
