use Rattle.qw_low.proofs.Appended.{if_ok}
use Rattle.qw_scalar.specs.Tree.{expression_of}
use Rattle.qw_expr.specs.Bindings.{known_of}
use Rattle.qw_expr.proofs.Guards.{gathers_two}
use Rattle.qw_expr.proofs.Kept.{left_strict, right_strict}
use Rattle.qw_expr.proofs.guard.Sure.gather_beside.Goals as goal

pub returns : goal.returns
returns c =
    let known = known_of c.args.known.now in
    let x = expression_of c.args.expr.now in
    let a = expression_of c.args.leaf.now in
    let first = c.in_ok-gather_nulled.ensures.gathers c.if-not-branch.false in
    record {
      gathers = if_ok _ _ c.keep.result
          (λ strict kept yes operator. (
            gathers_two c.args.self.now c.gather_nulled.new.self c.keep.new.self _ _ _ first (kept yes) (λ lx la nx na p q. left_strict known operator x a lx la nx na p q),
            gathers_two c.args.self.now c.gather_nulled.new.self c.keep.new.self _ _ _ first (kept yes) (λ lx la nx na p q. right_strict known operator x a lx la nx na p q),
          ))
          c.keep.ensures;
    }
