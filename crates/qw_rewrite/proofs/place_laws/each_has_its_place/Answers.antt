use Rattle.qw_algebra.specs.Written.{written}
use Rattle.qw_rewrite.proofs.Below.{placed_below}
use Rattle.qw_rewrite.proofs.Lowest.{placed_in_order, placed_low}
use Rattle.qw_rewrite.proofs.place_laws.each_has_its_place.Goals as goal

pub returns-clause-below : goal.returns-clause-below
returns-clause-below c = placed_below

pub returns-clause-low : goal.returns-clause-low
returns-clause-low c = λ query node. placed_low (written query) node

pub returns-clause-in_order : goal.returns-clause-in_order
returns-clause-in_order c = λ query node. placed_in_order (written query) node
