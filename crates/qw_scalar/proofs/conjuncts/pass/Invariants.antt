use Rattle.std.proofs.Common.{◌≡◌, map, drop}
use Rattle.qw_scalar.specs.Evaluation.{at_row}
use Rattle.qw_scalar.specs.Conjuncts.{passes}
use Rattle.qw_scalar.specs.Tree.{condition_of}
use Rattle.qw_scalar.proofs.conjuncts.pass.Given as goal

-- what is left decides
abbrev pub invariant-loop-conjunct : goal.invariant-loop-conjunct
invariant-loop-conjunct l =
    passes (map condition_of (drop l.conjunct-index l.conjuncts)) (at_row l.row) ≡ passes (map condition_of l.conjuncts) (at_row l.row)
