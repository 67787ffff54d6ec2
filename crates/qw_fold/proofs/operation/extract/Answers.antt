use Rattle.std.proofs.Common.{◌≡◌, true}
use Rattle.qw_fold.specs.Inner.Made.{is_date}
use Rattle.qw_fold.proofs.Evaluations.{extract_evaluated}
use Rattle.qw_fold.proofs.operation.extract.Goals as goal

pub returns-then-literal : goal.returns-then-literal
returns-then-literal c =
    let literal : is_date c.args.operand ≡ true = cc in
    extract_evaluated c.args.field c.args.operand c.in_ok-tree.tree c.evaluated.result literal c.requires.typed c.in_ok-tree.ensures.built.means c.evaluated.ensures
