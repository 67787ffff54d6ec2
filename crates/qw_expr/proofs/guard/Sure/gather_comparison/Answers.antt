use Rattle.qw_scalar.specs.Tree.{expression_of}
use Rattle.qw_expr.specs.Bindings.{known_of}
use Rattle.qw_expr.proofs.Guards.{comparison_strict, gathers_two}
use Rattle.qw_expr.proofs.guard.Sure.gather_comparison.Goals as goal

pub returns : goal.returns
returns c =
    let first = c.in-Some.field-0 in
    let second = c.in-Some-2.field-0 in
    let one = rw c.in-Some.is at c.in_ok-gather.ensures.gathers in
    let other = rw c.in-Some-2.is at c.in_ok-gather-2.ensures.gathers in
    record {
      gathers = λ yes operator. gathers_two c.args.self.now c.gather.new.self c.gather-2.new.self _ _ _ one other
          (λ la lb na nb p q. comparison_strict (known_of c.args.known.now) operator (expression_of c.args.left.now) (expression_of c.args.right.now) la lb na nb first.scale first.most second.scale second.most p q);
    }
