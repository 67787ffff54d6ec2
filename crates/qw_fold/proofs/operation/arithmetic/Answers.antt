use Rattle.qw_fold.proofs.Evaluations.{together_stands}
use Rattle.qw_fold.proofs.Trees.{if_ok}
use Rattle.qw_fold.proofs.operation.arithmetic.Goals as goal

pub returns-in-Add : goal.returns-in-Add
returns-in-Add c =
    if_ok _ _ c.operation.result
    (λ made h. together_stands c.args.operator c.args.left c.args.right c.at_one_scale-left.result.0 c.at_one_scale-left.result.1 made c.in-Add.is c.at_one_scale-left.ensures h)
    c.operation.ensures
