use Rattle.qw_scalar.specs.Tree.{expression_of}
use Rattle.qw_expr.specs.Bindings.{known_of}
use Rattle.qw_expr.proofs.Guards.{calm_nulled, gathers_as, gathers_two, operated_nulled}
use Rattle.qw_expr.proofs.guard.Sure.gather_nulled.Goals as goal

pub returns-in-Arithmetic : goal.returns-in-Arithmetic
returns-in-Arithmetic c =
    let a = expression_of c.in-Arithmetic.left.value in
    let b = expression_of c.in-Arithmetic.right.value in
    let first = c.in-Some.field-0 in
    let second = c.in-Some-2.field-0 in
    let one = rw (c.in-Some.is, c.deref.ensures) at c.in_ok-gather.ensures.gathers in
    let other = rw (c.in-Some-2.is, c.deref-in-Arithmetic.ensures) at c.in_ok-gather-2.ensures.gathers in
    record {
      gathers = rw c.in-Arithmetic.is
          (λ yes. gathers_two c.args.self.now c.gather.new.self c.gather-in-Arithmetic.new.self _ _ _ one other
          (λ la lb na nb p q. operated_nulled (known_of c.args.known.now) c.in-Arithmetic.field-0 a b la lb na nb first.scale first.most second.scale second.most p q));
    }

pub returns : goal.returns
returns c =
    let bounds = c.in-Some-3.field-0 in
    let one = rw c.in-Some-3.is at c.in_ok-gather-3.ensures.gathers in
    record {
      gathers = λ yes. gathers_as c.args.self.now c.gather-2.new.self _ _ one
          (λ leaves nulls calm. calm_nulled (known_of c.args.known.now) (expression_of c.args.expr.now) leaves nulls bounds.scale bounds.most calm);
    }
