use Rattle.qw_scalar.specs.Tree.{condition_of, expression_of}
use Rattle.qw_expr.specs.Bindings.{known_of}
use Rattle.qw_expr.proofs.PlainTests.{both_tests, either_tests, if_both, not_tests}
use Rattle.qw_expr.proofs.Tests.{emitted_scale}
use Rattle.qw_expr.proofs.test.+test_of.Goals as goal

pub test_comparison-requires-clause-scales : goal.test_comparison-requires-clause-scales
test_comparison-requires-clause-scales t c =
    let typed = rw c.in-Compare.is at c.requires.typed in (
      emitted_scale (known_of c.args.known.now) (expression_of c.in-Compare.left.value) c.args.emitter.now c.emit_expr.new.emitter c.in_ok-x-in-Compare.x typed.0.0 (rw c.deref.ensures at c.in_ok-x-in-Compare.ensures.emits),
      emitted_scale (known_of c.args.known.now) (expression_of c.in-Compare.right.value) c.emit_expr.new.emitter c.emit_expr-in-Compare.new.emitter c.in_ok-y-in-Compare.y typed.0.1 (rw c.deref-in-Compare.ensures at c.in_ok-y-in-Compare.ensures.emits),
    )

pub returns-in-Some-clause-emits : goal.returns-in-Some-clause-emits
returns-in-Some-clause-emits t c =
    let d = condition_of c.in-Not.operand.value in
    let made = rw (c.in-Some.is, c.deref-in-Not.ensures) at c.in_ok-test-in-Not.ensures.plain in
    rw c.in-Not.is
    (if_both _ _ _ c.not.result c.not.ensures.word c.not.ensures.below (λ out is below. not_tests (known_of c.args.known.now) d c.args.emitter.now c.in-Some.test out c.requires.served made is below))

pub returns-in_ok-test_of-in-Some-2-clause-emits : goal.returns-in_ok-test_of-in-Some-2-clause-emits
returns-in_ok-test_of-in-Some-2-clause-emits t c =
    let first = condition_of c.in-And.left.value in
    let second = condition_of c.in-And.right.value in
    let made = rw (c.in-Some-2.is, c.deref-in-And.ensures) at c.in_ok-second-in-And.ensures.plain in
    let emits = rw c.deref-in-Some-2.ensures at c.in_ok-test_of-in-Some-2.ensures.emits in
    rw c.in-And.is
    (if_both _ _ _ c.both.result c.both.ensures.word c.both.ensures.below
    (λ out is below. both_tests (known_of c.args.known.now) first second c.args.emitter.now c.test_of.new.emitter c.in_ok-test_of-in-Some-2.field-0 c.in-Some-2.second out c.requires.served emits made below is))

pub returns-in_ok-test_of-in-Some-3-clause-emits : goal.returns-in_ok-test_of-in-Some-3-clause-emits
returns-in_ok-test_of-in-Some-3-clause-emits t c =
    let first = condition_of c.in-Or.left.value in
    let second = condition_of c.in-Or.right.value in
    let made = rw (c.in-Some-3.is, c.deref-in-Or.ensures) at c.in_ok-second-in-Or.ensures.plain in
    let emits = rw c.deref-in-Some-3.ensures at c.in_ok-test_of-in-Some-3.ensures.emits in
    rw c.in-Or.is
    (if_both _ _ _ c.either.result c.either.ensures.word c.either.ensures.below
    (λ out is below. either_tests (known_of c.args.known.now) first second c.args.emitter.now c.test_of-in-Some-3.new.emitter c.in_ok-test_of-in-Some-3.field-0 c.in-Some-3.second out c.requires.served emits made below is))
