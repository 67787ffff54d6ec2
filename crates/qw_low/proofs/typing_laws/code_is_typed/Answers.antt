use Rattle.qw_low.proofs.CodeTyped.{statement_typed}
use Rattle.qw_low.proofs.typing_laws.code_is_typed.Goals as goal

pub returns : goal.returns
returns c = statement_typed
