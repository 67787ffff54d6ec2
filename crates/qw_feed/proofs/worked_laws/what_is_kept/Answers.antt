use Rattle.std.proofs.Common.{inl, inr, ⊎_elim, arith}
use Rattle.qw_low.specs.State.{Number}
use Rattle.qw_feed.specs.Frames.{Before, From}
use Rattle.qw_feed.specs.Worked.{two_rows}
use Rattle.qw_feed.proofs.Frames.{Keeps-same, Keeps-set, Stored-none, Stored-cell}
use Rattle.qw_feed.proofs.WorkedFacts.{same_number}
use Rattle.qw_feed.proofs.worked_laws.what_is_kept.Goals as goal

pub returns-clause-stored : goal.returns-clause-stored
returns-clause-stored c = Stored-cell (Before 112) two_rows two_rows 0 120 8 (Number 2) (omega arith) (λ at width before. inl (omega (arith, before))) (Stored-none (Before 112) two_rows)

pub returns-clause-elsewhere : goal.returns-clause-elsewhere
returns-clause-elsewhere c = λ stored. let same = stored.cells 0 120 8 (omega arith) in omega (arith, same_number 2 0 same)

pub returns-clause-set : goal.returns-clause-set
returns-clause-set c = Keeps-set (From 5) (Before 65536) two_rows two_rows 4 (Number 3) (λ i old is. ⊎_elim (λ z. omega (arith, z, is)) (λ g. omega (arith, g, is)) old) (Keeps-same (From 5) (Before 65536) two_rows)

pub returns-clause-other : goal.returns-clause-other
returns-clause-other c = λ keeps. omega (arith, same_number 3 2 (keeps.locals 4 (inr (omega arith))))
