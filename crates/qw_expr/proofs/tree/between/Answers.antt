use Rattle.std.proofs.Common.{arith}
use Rattle.qw_scalar.specs.Tree.{expression_of}
use Rattle.qw_expr.specs.Bindings.{known_of}
use Rattle.qw_expr.specs.Inner.Made.{with_operand}
use Rattle.qw_expr.proofs.Trees.{begun_served, if_short, junction_made}
use Rattle.qw_expr.proofs.tree.between.Goals as goal

pub against-requires-2-clause-served : goal.against-requires-2-clause-served
against-requires-2-clause-served c =
    begun_served (with_operand (expression_of c.args.operand.now) c.args.x (known_of c.args.known.now)) _ c.against.new.emitter c.begin_and.new.self c.in_ok-begin_and.ensures.emits c.in_ok-t.ensures.served

pub returns : goal.returns
returns c =
    let begins = c.in_ok-begin_and.ensures in
    let mt = c.in_ok-t.ensures in
    let mu = c.in_ok-u.ensures in
    if_short _ _ _ c.end_and.result
    (λ out does short. junction_made _ _ _ _ _ _ _ _ _ _ _ _ _ _ _ _ c.requires.served mt begins.emits mu (λ more low ec ed. does more _ _ _ _ _ low ec begins.emits ed)
    (omega (arith, mt.short, begins.short, mu.short, short))) c.end_and.ensures.emits c.end_and.ensures.short
