use Rattle.std.proofs.Common.{◌≡◌, ◌++◌, length}
use Rattle.qw_ast.specs.Quoted.{undoubled}
use Rattle.qw_ast.proofs.quoted.undoubled.Given as goal

abbrev pub invariant-loop-rest : goal.invariant-loop-rest
invariant-loop-rest l = l.value.items ++ undoubled l.quote l.rest ≡ undoubled l.quote l.octets

abbrev pub decreases-loop-rest : goal.decreases-loop-rest
decreases-loop-rest l = length l.rest
