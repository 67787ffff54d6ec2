use Rattle.std.proofs.Common.{arith}
use Rattle.qw_scalar.specs.Expression.{brought, is_there}
use Rattle.qw_scalar.specs.Tree.{expression_of}
use Rattle.qw_expr.specs.Bindings.{known_of}
use Rattle.qw_expr.specs.Emits.{free_of}
use Rattle.qw_expr.specs.Inner.Made.{with_operand}
use Rattle.qw_expr.proofs.TreeChoices.{begun_grows, denied_made, first_made}
use Rattle.qw_expr.proofs.Trees.{includes_same, operand_made, served_more}
use Rattle.qw_expr.proofs.tree.unless_null.Goals as goal

pub first_brought-requires-clause-below : goal.first_brought-requires-clause-below
first_brought-requires-clause-below c =
    let e = expression_of c.args.operand.now in
    let mc = denied_made (known_of c.args.known.now) _ e c.args.x 9 c.args.emitter.now c.predicate.new.self c.negation.new.self c.in_ok-null.null c.in_ok-t.t c.requires.served c.in_ok-null.ensures.emits c.in_ok-t.ensures.emits (omega (arith, c.in_ok-null.ensures.short, c.in_ok-t.ensures.short)) in
    omega (arith, c.requires.served.0.0.0, mc.grows, begun_grows c.in_ok-t.t.value c.args.form.text c.negation.new.self c.begin_choice.new.self c.in_ok-place.place c.in_ok-place.ensures.emits)

pub returns : goal.returns
returns c =
    let e = expression_of c.args.operand.now in
    let with = with_operand e c.args.x (known_of c.args.known.now) in
    let begun = c.begin_choice.new.self in
    let mc = denied_made (known_of c.args.known.now) _ e c.args.x 9 c.args.emitter.now c.predicate.new.self c.negation.new.self c.in_ok-null.null c.in_ok-t.t c.requires.served c.in_ok-null.ensures.emits c.in_ok-t.ensures.emits (omega (arith, c.in_ok-null.ensures.short, c.in_ok-t.ensures.short)) in
    let far = begun_grows c.in_ok-t.t.value c.args.form.text c.negation.new.self begun c.in_ok-place.place c.in_ok-place.ensures.emits in
    first_made with with (is_there e) e (brought e c.args.form.scale) c.args.form.text 9 0 110 c.args.emitter.now c.negation.new.self begun begun c.first_brought.new.self c.in_ok-t.t c.in_ok-place.place c.args.x c.in_ok-first.first c.requires.served (includes_same with) mc c.in_ok-place.ensures.emits
    (operand_made (known_of c.args.known.now) e c.args.x begun c.requires.typed.0 (served_more (free_of c.args.emitter.now) (free_of begun) with (omega (arith, mc.grows, far)) c.requires.served))
    (λ more low ec ea. c.in_ok-first.ensures.emits more (is_there e) e c.args.form.text c.args.emitter.now c.negation.new.self begun c.in_ok-t.t c.requires.typed low ec c.in_ok-place.ensures.emits ea)
    (omega (arith, mc.short, c.in_ok-place.ensures.short, c.in_ok-first.ensures.short))
