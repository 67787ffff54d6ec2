use Rattle.qw_map.proofs.Separate.{worlds-turns, columns-turns}
use Rattle.qw_map.proofs.TurnSteps.{limits-turns}
use Rattle.qw_map.proofs.turn_laws.columns_stay.Goals as goal

pub returns-clause-octets : goal.returns-clause-octets
returns-clause-octets c = columns-turns

pub returns-clause-maps : goal.returns-clause-maps
returns-clause-maps c = λ behind s ts safe k i later found found_later.
    let same = worlds-turns behind s ts safe k i later found found_later in
    (same.0, same.1, limits-turns s ts k i later found found_later)
