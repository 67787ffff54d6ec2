use Rattle.qw_low.proofs.Appended.{if_ok}
use Rattle.qw_scalar.specs.Tree.{expression_of, expressions_of}
use Rattle.qw_expr.specs.Bindings.{known_of}
use Rattle.qw_expr.proofs.Guards.{gathers_as, gathers_two}
use Rattle.qw_expr.proofs.Kept.{more_kept, one_kept}
use Rattle.qw_expr.proofs.guard.Sure.+keep_all.Goals as goal

pub returns-in-Last : goal.returns-in-Last
returns-in-Last t c =
    rw c.in-Last.is
    (if_ok _ _ c.keep.result
    (λ kept one yes. gathers_as c.args.self.now c.keep.new.self _ _ (one yes) (λ leaves nulls made. one_kept (known_of c.args.known.now) (expression_of c.in-Last.value.value) leaves nulls made))
    (rw c.deref.ensures at c.keep.ensures))

pub returns-else-not-branch : goal.returns-else-not-branch
returns-else-not-branch t c =
    let first = rw c.deref-in-More.ensures at c.in_ok-keep-in-More.ensures in
    rw c.in-More.is
    (if_ok _ _ c.keep_all.result
    (λ kept rest yes. gathers_two c.args.self.now c.keep-in-More.new.self c.keep_all.new.self _ _ _ (first c.if-not-branch.false) (rest yes)
    (λ la lb na nb p q. more_kept (known_of c.args.known.now) (expression_of c.in-More.value.value) (expressions_of c.in-More.rest.value) la lb na nb p q))
    (rw c.deref-in-More-2.ensures at c.keep_all.ensures))
