use Rattle.std.proofs.Common.{refl}
use Rattle.std.specs.Fmt.{digits}
use Rattle.serde_json.proofs.OnLiterals.{serde_json_on_literals}
use Rattle.qw_describe.specs.Description.{told}
use Rattle.qw_describe.proofs.worked_laws.description_of_pens.Goals as goal

pub returns : goal.returns
unfolding digits told serde_json_on_literals
returns c = refl
