use Rattle.qw_scalar.specs.Expression.{between}
use Rattle.qw_scalar.specs.Tree.{expression_of}
use Rattle.qw_expr.specs.Bindings.{known_of}
use Rattle.qw_expr.proofs.Abbreviations.{between_first}
use Rattle.qw_expr.proofs.PlainTests.{handed_tests, shared_tests}
use Rattle.qw_expr.proofs.test.test_between.Goals as goal

pub returns-in-Some-clause-emits : goal.returns-in-Some-clause-emits
returns-in-Some-clause-emits c =
    let e = expression_of c.args.operand.now in
    let least = expression_of c.args.least.now in
    let greatest = expression_of c.args.greatest.now in
    let made = rw c.in-Some.is at c.in_ok-test.ensures.plain in
    shared_tests (known_of c.args.known.now) e c.in_ok-x.x (between e least greatest) c.args.emitter.now c.emit_expr.new.emitter c.in-Some.test c.requires.served c.in_ok-x.ensures.emits made (between_first e least greatest)

pub returns-in_ok-t-in-None-clause-emits : goal.returns-in_ok-t-in-None-clause-emits
returns-in_ok-t-in-None-clause-emits c =
    let e = expression_of c.args.operand.now in
    let least = expression_of c.args.least.now in
    let greatest = expression_of c.args.greatest.now in
    handed_tests (known_of c.args.known.now) e c.in_ok-x.x (between e least greatest) _ c.args.emitter.now c.emit_expr.new.emitter c.between.new.emitter c.in_ok-t-in-None.t c.requires.served c.in_ok-x.ensures.emits c.in_ok-t-in-None.ensures
    (between_first e least greatest)
