-- When two expressions or conditions mean the same (ISO/IEC 9075:1992, 6.11, 8.12): at every row the same value or truth, or the same
-- exception.
use Rattle.std.specs.Prelude.{◌≡◌}
use Rattle.qw_scalar.specs.Evaluation.{Environment, truth_of, value_of}
use Rattle.qw_scalar.specs.Expression.{Condition, Expression, scale_of}
use Rattle.qw_scalar.specs.Typing.{kind_of}
use Rattle.qw_scalar.specs.Units as text

-- Two expressions of one kind and scale have the same value everywhere, and the comparison on the way that compares most octets of texts
-- compares as many.
pub record IsSame (e f : Expression) : Type 0 where
  pub value : (env : Environment) → value_of e env ≡ value_of f env
  pub kind : kind_of e ≡ kind_of f
  pub scale : scale_of e ≡ scale_of f
  pub units : (env : Environment) → text.units e env ≡ text.units f env

-- Two conditions have the same truth everywhere, and such a comparison in them compares as many octets.
pub record AreSame (c d : Condition) : Type 0 where
  pub truth : (env : Environment) → truth_of c env ≡ truth_of d env
  pub units : (env : Environment) → text.units_of c env ≡ text.units_of d env
