use Rattle.qw_low.proofs.Appended.{if_ok}
use Rattle.qw_scalar.specs.Tree.{condition_of}
use Rattle.qw_expr.specs.Bindings.{known_of}
use Rattle.qw_expr.proofs.Guards.{gathers_as, negation_strict}
use Rattle.qw_expr.proofs.guard.Sure.+gather_condition.Goals as goal

pub returns-in-Not-clause-gathers : goal.returns-in-Not-clause-gathers
returns-in-Not-clause-gathers t c =
    let d = condition_of c.in-Not.operand.value in
    rw c.in-Not.is
    (if_ok _ _ c.gather_condition.result
    (λ strict one yes. gathers_as c.args.self.now c.gather_condition.new.self _ _ (one yes) (λ leaves nulls made. negation_strict (known_of c.args.known.now) d leaves nulls made))
    (rw c.deref-in-Not.ensures at c.gather_condition.ensures.gathers))
