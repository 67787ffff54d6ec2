use Rattle.qw_low.proofs.Appended.{if_ok}
use Rattle.qw_scalar.specs.Tree.{expression_of, expressions_of}
use Rattle.qw_expr.specs.Bindings.{known_of}
use Rattle.qw_expr.proofs.Abbreviations.{among_known, among_typed}
use Rattle.qw_expr.proofs.Guards.{gathers_two}
use Rattle.qw_expr.proofs.Kept.{among_strict}
use Rattle.qw_expr.proofs.guard.Sure.gather_in.Goals as goal

pub gather_nulled-requires-clause-typed : goal.gather_nulled-requires-clause-typed
gather_nulled-requires-clause-typed c = among_typed (expression_of c.args.operand.now) (expressions_of c.args.values.now) c.requires.typed

pub gather_nulled-requires-clause-known : goal.gather_nulled-requires-clause-known
gather_nulled-requires-clause-known c = among_known (known_of c.args.known.now) (expression_of c.args.operand.now) (expressions_of c.args.values.now) c.requires.known

pub keep_all-requires : goal.keep_all-requires
keep_all-requires c = record { known = (expression_of c.args.operand.now, c.requires.known) }

pub returns : goal.returns
returns c =
    let one = c.in_ok-gather_nulled.ensures.gathers c.if-not-branch.false in
    record {
      gathers = if_ok _ _ c.keep_all.result
          (λ strict values yes. gathers_two c.args.self.now c.gather_nulled.new.self c.keep_all.new.self _ _ _ one (values yes)
          (λ lx lv nx nv p q. among_strict (known_of c.args.known.now) (expression_of c.args.operand.now) (expressions_of c.args.values.now) lx lv nx nv p q))
          c.keep_all.ensures;
    }
