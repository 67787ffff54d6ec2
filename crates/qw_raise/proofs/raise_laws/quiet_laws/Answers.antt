use Rattle.qw_raise.proofs.RaiseLemmas.{quiet_truth, quiet_value}
use Rattle.qw_raise.proofs.raise_laws.quiet_laws.Goals as goal

pub returns-clause-value : goal.returns-clause-value
returns-clause-value c row e typed columns quiet =
    let g = quiet_value row e typed columns quiet in
    (g.value, (g.is, g.within))

pub returns-clause-truth : goal.returns-clause-truth
returns-clause-truth c row condition typed columns quiet =
    let g = quiet_truth row condition typed columns quiet in
    (g.truth, g.is)
