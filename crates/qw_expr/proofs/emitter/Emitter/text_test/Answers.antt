use Rattle.std.proofs.Common.{◌≡◌, ◌++◌, ℕ, List, arith}
use Rattle.qw_scalar.specs.declared.comparison.Comparison.{Comparison}
use Rattle.qw_low.specs.declared.cell.Cell.{Cell}
use Rattle.qw_low.specs.declared.step.LowStep.{LowStep}
use Rattle.qw_low.specs.Syntax.{Statement, seq}
use Rattle.qw_low.specs.Steps.{steps_of}
use Rattle.qw_low.proofs.Appended.{two}
use Rattle.qw_expr.specs.Inner.Texts.{TestsTexts}
use Rattle.qw_expr.proofs.TextDecisions.{IsOrder, order_from, tests_same, tests_other, tests_order, tests_like, tests_unlike}
use Rattle.qw_expr.proofs.emitter.Emitter.text_test.Goals as goal

-- a block, and behind it the test of what it leaves
tested : (o : Comparison) (left right : Cell) (free t : ℕ) (c0 c1 c2 : List LowStep) (a test : Statement) → c1 ≡ c0 ++ steps_of a → c2 ≡ c1 ++ steps_of test → TestsTexts o left right free t (seq a test) →
    (f : Statement) × (c2 ≡ c0 ++ steps_of f) × TestsTexts o left right free t f
tested o left right free t c0 c1 c2 a test block tail tests = (seq a test, two c0 c1 c2 (steps_of a) (steps_of test) block tail, tests)

pub returns-in_ok-copy_answer-in-Equal : goal.returns-in_ok-copy_answer-in-Equal
returns-in_ok-copy_answer-in-Equal c =
    let out = c.in_ok-out-in-Equal.ensures in
    let put = c.in_ok-copy_answer-in-Equal.ensures in
    record {
      code = rw c.in-Equal.is (tested _ _ _ _ _ _ _ _ _ _ out.block.1 put.code (tests_same _ _ _ _ _ _ out.place out.block.2));
      same = put.same;
      short = rw c.in-Equal.is (omega (arith, out.short, put.short));
    }

pub returns-in_ok-copy_opposite-in-NotEqual : goal.returns-in_ok-copy_opposite-in-NotEqual
returns-in_ok-copy_opposite-in-NotEqual c =
    let out = c.in_ok-out-in-NotEqual.ensures in
    let put = c.in_ok-copy_opposite-in-NotEqual.ensures in
    record {
      code = rw c.in-NotEqual.is (tested _ _ _ _ _ _ _ _ _ _ out.block.1 put.code (tests_other _ _ _ _ _ _ out.place out.block.2));
      same = put.same;
      short = rw c.in-NotEqual.is (omega (arith, out.short, put.short));
    }

pub returns-in_ok-test_zero-in-Less : goal.returns-in_ok-test_zero-in-Less
returns-in_ok-test_zero-in-Less c =
    let out = c.in_ok-out-in-Less.ensures in
    let put = c.in_ok-test_zero-in-Less.ensures in
    let order : IsOrder c.args.operator = order_from c.args.operator c.in-Less.is in
    record {
      code = tested _ _ _ _ _ _ _ _ _ _ out.block.1 put.code (tests_order _ _ _ _ _ _ _ order out.place out.block.2);
      same = put.same;
      short = omega (arith, order.steps_are, out.short, put.short);
    }

pub returns-in_ok-copy_answer-in-Like : goal.returns-in_ok-copy_answer-in-Like
returns-in_ok-copy_answer-in-Like c =
    let out = c.in_ok-out-in-Like.ensures in
    let put = c.in_ok-copy_answer-in-Like.ensures in
    record {
      code = rw c.in-Like.is (tested _ _ _ _ _ _ _ _ _ _ out.block.1 put.code (tests_like _ _ _ _ _ _ out.place out.block.2));
      same = put.same;
      short = rw c.in-Like.is (omega (arith, out.short, put.short));
    }

pub returns-in_ok-copy_opposite-in-NotLike : goal.returns-in_ok-copy_opposite-in-NotLike
returns-in_ok-copy_opposite-in-NotLike c =
    let out = c.in_ok-out-in-NotLike.ensures in
    let put = c.in_ok-copy_opposite-in-NotLike.ensures in
    record {
      code = rw c.in-NotLike.is (tested _ _ _ _ _ _ _ _ _ _ out.block.1 put.code (tests_unlike _ _ _ _ _ _ out.place out.block.2));
      same = put.same;
      short = rw c.in-NotLike.is (omega (arith, out.short, put.short));
    }
