use Rattle.qw_low.proofs.Appended.{if_ok}
use Rattle.qw_scalar.specs.Tree.{expression_of}
use Rattle.qw_expr.specs.Bindings.{known_of}
use Rattle.qw_expr.proofs.Guards.{gathers_three}
use Rattle.qw_expr.proofs.Kept.{between_strict}
use Rattle.qw_expr.proofs.guard.Sure.gather_between.Goals as goal

pub returns : goal.returns
returns c =
    let one = c.in_ok-gather_nulled.ensures.gathers c.if-not-branch.false in
    record {
      gathers = if_ok _ _ c.keep-2.result
          (λ strict greatest yes. gathers_three c.args.self.now c.gather_nulled.new.self c.keep.new.self c.keep-2.new.self _ _ _ _ one (c.in_ok-keep.ensures c.if-not-branch-2.false) (greatest yes)
          (λ lx la lb nx na nb p q r. between_strict (known_of c.args.known.now) (expression_of c.args.operand.now) (expression_of c.args.least.now) (expression_of c.args.greatest.now) lx la lb nx na nb p q r))
          c.keep-2.ensures;
    }
