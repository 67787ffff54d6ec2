use Rattle.qw_fold.proofs.Trees.{together_compared}
use Rattle.qw_fold.proofs.operation.compared.Goals as goal

pub returns : goal.returns
returns c =
    together_compared c.args.op c.args.left c.args.right c.at_one_scale-left.result.0 c.at_one_scale-left.result.1 c.compare_tree.result c.requires.folded c.at_one_scale-left.ensures c.compare_tree.ensures.built c.compare_tree.ensures.folded
