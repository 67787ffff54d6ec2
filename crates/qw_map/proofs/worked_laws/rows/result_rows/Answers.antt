use Rattle.std.proofs.Common.{refl}
use Rattle.std.specs.Str.{is_utf8, chars}
use lib.Utf8.{encode}
use Rattle.qw_linear.specs.Memory.{number_at}
use Rattle.qw_map.proofs.worked_laws.rows.result_rows.Goals as goal

pub returns-clause-one : goal.returns-clause-one
unfolding number_at is_utf8 chars encode
returns-clause-one c = refl

pub returns-clause-border : goal.returns-clause-border
unfolding number_at is_utf8 chars encode
returns-clause-border c = refl

pub returns-clause-last : goal.returns-clause-last
unfolding number_at is_utf8 chars encode
returns-clause-last c = refl

pub returns-clause-head : goal.returns-clause-head
unfolding number_at is_utf8 chars encode
returns-clause-head c = refl

pub returns-clause-text : goal.returns-clause-text
unfolding number_at is_utf8 chars encode
returns-clause-text c = (refl, refl)
