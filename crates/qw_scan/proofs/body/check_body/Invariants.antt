use Rattle.qw_scan.proofs.BodyLemmas.{IsOn}
use Rattle.qw_scan.proofs.body.check_body.Given as goal

-- the walk is after so many places of the body
abbrev pub invariant-loop-at : goal.invariant-loop-at
invariant-loop-at l = IsOn l.fn.scope l.octets l.at l.walk l.rest
