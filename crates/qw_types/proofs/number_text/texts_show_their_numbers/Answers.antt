use Rattle.qw_types.proofs.NumberTextLaws.{text_shows}
use Rattle.qw_types.proofs.number_text.texts_show_their_numbers.Goals as goal

pub returns : goal.returns
returns c = text_shows
