-- How much comparisons emit.
use Rattle.std.proofs.Common.{◌+◌, ◌≤◌, length, arith}
use Rattle.qw_scalar.specs.declared.comparison.Comparison.{Comparison}
use Rattle.qw_scalar.specs.declared.comparison.Comparison.TheVariants as op
use Rattle.qw_expr.specs.Emits.{comparing}
use Rattle.qw_expr.specs.Inner.Texts.{texts_own, texts_steps}

-- of texts: the locals, the test, and what is done with null words
pub texts_comparing : (o : Comparison) → 2 + length (texts_own o) + texts_steps o + 10 ≤ comparing o
texts_comparing op.Equal = omega arith
texts_comparing op.NotEqual = omega arith
texts_comparing op.Less = omega arith
texts_comparing op.LessOrEqual = omega arith
texts_comparing op.Greater = omega arith
texts_comparing op.GreaterOrEqual = omega arith
texts_comparing op.Like = omega arith
texts_comparing op.NotLike = omega arith

pub comparing_least : (o : Comparison) → 130 ≤ comparing o
comparing_least op.Equal = omega arith
comparing_least op.NotEqual = omega arith
comparing_least op.Less = omega arith
comparing_least op.LessOrEqual = omega arith
comparing_least op.Greater = omega arith
comparing_least op.GreaterOrEqual = omega arith
comparing_least op.Like = omega arith
comparing_least op.NotLike = omega arith

pub comparing_most : (o : Comparison) → comparing o ≤ 200
comparing_most op.Equal = omega arith
comparing_most op.NotEqual = omega arith
comparing_most op.Less = omega arith
comparing_most op.LessOrEqual = omega arith
comparing_most op.Greater = omega arith
comparing_most op.GreaterOrEqual = omega arith
comparing_most op.Like = omega arith
comparing_most op.NotLike = omega arith
