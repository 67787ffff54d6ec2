use Rattle.qw_scan.specs.Inner.Bodies.{outside_in}
use Rattle.qw_scan.proofs.CodeLemmas.{TypedTo}
use Rattle.qw_scan.proofs.bodies.check_codes.Given as goal

-- the functions so far are typed
abbrev pub invariant-loop-number : goal.invariant-loop-number
invariant-loop-number l = TypedTo (outside_in l.module_scope) l.module_scope.types.now l.own l.octets l.number l.rest
