use Rattle.qw_types.proofs.TextLaws.{text_short, texts_short}
use Rattle.qw_types.proofs.value_laws.texts_are_short.Goals as goal

pub returns : goal.returns
returns c = record { one = text_short; column = texts_short }
