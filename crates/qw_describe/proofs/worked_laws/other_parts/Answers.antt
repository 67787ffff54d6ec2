use Rattle.std.proofs.Common.{refl}
use Rattle.std.specs.Fmt.{digits}
use Rattle.serde_json.proofs.OnLiterals.{serde_json_on_literals}
use Rattle.qw_describe.proofs.worked_laws.other_parts.Goals as goal

pub returns-clause-memory : goal.returns-clause-memory
unfolding digits serde_json_on_literals
returns-clause-memory c = refl

pub returns-clause-date : goal.returns-clause-date
unfolding digits serde_json_on_literals
returns-clause-date c = refl

pub returns-clause-quotes : goal.returns-clause-quotes
unfolding digits serde_json_on_literals
returns-clause-quotes c = refl

pub returns-clause-ascending : goal.returns-clause-ascending
unfolding digits serde_json_on_literals
returns-clause-ascending c = refl
