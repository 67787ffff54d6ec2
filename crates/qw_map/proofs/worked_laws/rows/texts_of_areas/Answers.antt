use Rattle.std.proofs.Common.{refl}
use Rattle.std.specs.Str.{is_utf8, chars}
use lib.Utf8.{encode}
use Rattle.qw_map.proofs.worked_laws.rows.texts_of_areas.Goals as goal

pub returns-clause-there : goal.returns-clause-there
unfolding is_utf8 chars encode
returns-clause-there c = refl

pub returns-clause-border : goal.returns-clause-border
unfolding is_utf8 chars encode
returns-clause-border c = refl

pub returns-clause-not_text : goal.returns-clause-not_text
unfolding is_utf8 chars encode
returns-clause-not_text c = refl

pub returns-clause-empty : goal.returns-clause-empty
unfolding is_utf8 chars encode
returns-clause-empty c = refl
