use Rattle.std.proofs.Common.{◌≡◌, zero, suc, [], ◌∷◌, refl, ⊎_elim, arith}
use Rattle.std.specs.List.{Contains}
use Rattle.qw_types.specs.declared.code.Code.{Code}
use Rattle.qw_types.specs.declared.code.Code.TheVariants.{DivZero, OutOfRange}
use Rattle.qw_low.specs.Raising.{code_of}
use Rattle.qw_feed.proofs.WorkedFacts.{same_number}
use Rattle.qw_feed.proofs.worked_laws.blocks_that_feed.Goals as goal

pub returns-clause-no_row : goal.returns-clause-no_row
returns-clause-no_row c = λ feeds. let fed = feeds ([] ∷ [] ∷ []) refl tt in omega (arith, same_number 2 3 fed.1.has)

pub returns-clause-not_two : goal.returns-clause-not_two
returns-clause-not_two c = λ feeds. let fed = feeds ([] ∷ [] ∷ []) refl tt in omega (arith, same_number 3 4 fed.1.has)

pub returns-clause-in_no_time : goal.returns-clause-in_no_time
returns-clause-in_no_time c = λ feeds. let fed = feeds ([] ∷ [] ∷ []) refl tt in omega (arith, fed.0)

-- the only exception is 2
raised : (code : Code) → Contains (OutOfRange ∷ []) code → 1 ≡ code_of code → ⊥
raised OutOfRange told is = omega (arith, is)
raised DivZero (zero, low, is) same = cc
raised DivZero (suc i, low, is) same = omega (arith, low)

pub returns-clause-other : goal.returns-clause-other
returns-clause-other c = λ feeds. let told = feeds ([] ∷ [] ∷ []) refl tt in ⊎_elim (λ refused. omega (arith, refused)) (λ one. raised one.0 one.1 one.2) told.1

pub returns-clause-unkept : goal.returns-clause-unkept
returns-clause-unkept c = λ feeds. let kept = (feeds ([] ∷ [] ∷ []) refl tt).1.keeps.locals 1 refl in cc

pub returns-clause-besides : goal.returns-clause-besides
returns-clause-besides c = λ feeds. (feeds ([] ∷ [] ∷ []) refl tt).1.after
