use Rattle.std.proofs.Common.{inl, inr, refl, arith}
use Rattle.qw_top.proofs.AskingLemmas.{past_limit}
use Rattle.qw_top.proofs.worked_laws.worked_asking.Goals as goal

pub returns-clause-within : goal.returns-clause-within
returns-clause-within c = (_, refl, refl, inr (3, (refl, refl), omega arith))

pub returns-clause-past : goal.returns-clause-past
returns-clause-past c asked = past_limit _ 3 0 5 (omega arith) (omega arith) asked

pub returns-clause-before : goal.returns-clause-before
returns-clause-before c = (_, refl, refl, inl (omega arith))
