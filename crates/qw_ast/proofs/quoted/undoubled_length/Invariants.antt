use Rattle.std.proofs.Common.{◌≡◌, ◌+◌, ◌≤◌, length}
use Rattle.qw_ast.specs.Quoted.{undoubled}
use Rattle.qw_ast.proofs.quoted.undoubled_length.Given as goal

abbrev pub invariant-loop-rest : goal.invariant-loop-rest
invariant-loop-rest l = (l.length + length (undoubled l.quote l.rest) ≡ length (undoubled l.quote l.octets)) × (l.length + length l.rest ≤ length l.octets)

abbrev pub decreases-loop-rest : goal.decreases-loop-rest
decreases-loop-rest l = length l.rest
