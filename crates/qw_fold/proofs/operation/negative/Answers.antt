use Rattle.std.proofs.Common.{◌≡◌, true}
use Rattle.qw_scalar.specs.Tree.{expression_of}
use Rattle.qw_fold.specs.Inner.Made.{is_number}
use Rattle.qw_fold.proofs.Evaluations.{negative_constant, negative_evaluated}
use Rattle.qw_fold.proofs.operation.negative.Goals as goal

pub evaluated-requires-clause-constant : goal.evaluated-requires-clause-constant
evaluated-requires-clause-constant c =
    let literal : is_number c.args.operand ≡ true = cc in
    negative_constant c.args.operand (expression_of c.in_ok-tree.tree) literal c.in_ok-tree.ensures.built.means

pub returns-then-literal : goal.returns-then-literal
returns-then-literal c =
    let literal : is_number c.args.operand ≡ true = cc in
    negative_evaluated c.args.operand c.in_ok-tree.tree c.evaluated.result literal c.requires.typed c.in_ok-tree.ensures.built.means c.evaluated.ensures
