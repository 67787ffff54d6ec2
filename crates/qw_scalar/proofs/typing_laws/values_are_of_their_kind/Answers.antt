use Rattle.qw_scalar.proofs.TypingLemmas.{typed_value}
use Rattle.qw_scalar.proofs.typing_laws.values_are_of_their_kind.Goals as goal

pub returns : goal.returns
returns c = typed_value
