-- Whether a row passes the conjuncts of a WHERE, an ON or a HAVING (ISO/IEC 9075:1992, 7.6, 7.8): the operands of the outermost AND chain,
-- in written order, up to the first that isn't true. Unlike a nested AND, the chain stops at unknown too.
use Rattle.std.specs.Prelude.{Bool, true, false, List, [], ◌∷◌, Result, Ok}
use Rattle.qw_types.specs.Arithmetic.{◌>>=◌}
use Rattle.qw_types.specs.declared.code.Code.{Code}
use Rattle.qw_scalar.specs.Expression.{Condition}
use Rattle.qw_scalar.specs.Evaluation.{Environment, chosen, truth_of}

abbrev pub passes : List Condition → Environment → Result Bool Code
passes [] env = Ok true
passes (c ∷ cs) env = truth_of c env >>= (λ t. chosen t (passes cs env) (Ok false))
