use Rattle.std.proofs.Common.{◌≡◌, ◌&&◌, true, false}
use Rattle.qw_scalar.specs.Tree.{expression_of}
use Rattle.qw_fold.specs.Inner.Made.{is_number}
use Rattle.qw_fold.proofs.Evaluations.{IsOperation, operation_constant, operation_evaluated, operation_stays}
use Rattle.qw_fold.proofs.operation.operation.Goals as goal

pub evaluated-requires-clause-constant : goal.evaluated-requires-clause-constant
evaluated-requires-clause-constant c =
    let literals : (is_number c.args.left && is_number c.args.right) ≡ true = cc in
    operation_constant c.args.operator c.args.left c.args.right (expression_of c.in_ok-tree.tree) literals c.in_ok-tree.ensures.built.means

pub returns-then-literals : goal.returns-then-literals
returns-then-literals c =
    let literals : (is_number c.args.left && is_number c.args.right) ≡ true = cc in
    let is : IsOperation c.args.operator c.args.left c.args.right c.in_ok-tree.tree = record {
      built = c.in_ok-tree.ensures.built;
      folded = λ h. c.in_ok-tree.ensures.folded c.requires.folded (h, c.requires.operands);
    } in
    operation_evaluated c.args.operator c.args.left c.args.right c.in_ok-tree.tree c.evaluated.result literals c.requires.typed c.evaluated.ensures is

pub returns : goal.returns
returns c =
    let literals : (is_number c.args.left && is_number c.args.right) ≡ false = cc in
    let is : IsOperation c.args.operator c.args.left c.args.right c.in_ok-tree.tree = record {
      built = c.in_ok-tree.ensures.built;
      folded = λ h. c.in_ok-tree.ensures.folded c.requires.folded (h, c.requires.operands);
    } in
    operation_stays c.args.operator c.args.left c.args.right c.in_ok-tree.tree literals is
