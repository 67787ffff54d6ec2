use Rattle.qw_scalar.specs.Expression.{among}
use Rattle.qw_scalar.specs.Tree.{expression_of, expressions_of}
use Rattle.qw_expr.specs.Bindings.{known_of}
use Rattle.qw_expr.proofs.Abbreviations.{among_first, among_known, among_typed}
use Rattle.qw_expr.proofs.PlainTests.{handed_tests, operand_served, shared_tests}
use Rattle.qw_expr.proofs.SearchTests.{search_tests}
use Rattle.qw_expr.proofs.test.test_among.Goals as goal

pub emit_expr-requires-clause-typed : goal.emit_expr-requires-clause-typed
emit_expr-requires-clause-typed c = among_typed (expression_of c.args.operand.now) (expressions_of c.args.values.now) c.requires.typed

pub emit_expr-requires-clause-known : goal.emit_expr-requires-clause-known
emit_expr-requires-clause-known c = among_known (known_of c.args.known.now) (expression_of c.args.operand.now) (expressions_of c.args.values.now) c.requires.known

pub among-requires-clause-served : goal.among-requires-clause-served
among-requires-clause-served c = operand_served (known_of c.args.known.now) (expression_of c.args.operand.now) c.in_ok-x.x c.args.emitter.now c.emit_expr.new.emitter c.requires.served c.in_ok-x.ensures.emits

pub returns-in-Some-clause-emits : goal.returns-in-Some-clause-emits
returns-in-Some-clause-emits c =
    let e = expression_of c.args.operand.now in
    let values = expressions_of c.args.values.now in
    let made = rw c.in-Some.is at c.in_ok-sought.ensures.made in
    search_tests (known_of c.args.known.now) e c.in_ok-x.x (among e values) c.args.emitter.now c.emit_expr.new.emitter c.search.new.self c.in-Some.sought.items c.in_ok-out.out c.requires.served c.in_ok-x.ensures.emits made
    (rw c.deref.ensures.value at c.in_ok-out.ensures.emits) (among_first e values)

pub returns-in-Some-2-clause-emits : goal.returns-in-Some-2-clause-emits
returns-in-Some-2-clause-emits c =
    let e = expression_of c.args.operand.now in
    let values = expressions_of c.args.values.now in
    let made = rw c.in-Some-2.is at c.in_ok-test.ensures.plain in
    shared_tests (known_of c.args.known.now) e c.in_ok-x.x (among e values) c.args.emitter.now c.emit_expr.new.emitter c.in-Some-2.test c.requires.served c.in_ok-x.ensures.emits made (among_first e values)

pub returns-in_ok-t-in-None-clause-emits : goal.returns-in_ok-t-in-None-clause-emits
returns-in_ok-t-in-None-clause-emits c =
    let e = expression_of c.args.operand.now in
    let values = expressions_of c.args.values.now in
    handed_tests (known_of c.args.known.now) e c.in_ok-x.x (among e values) _ c.args.emitter.now c.emit_expr.new.emitter c.among.new.emitter c.in_ok-t-in-None.t c.requires.served c.in_ok-x.ensures.emits c.in_ok-t-in-None.ensures (among_first e values)
