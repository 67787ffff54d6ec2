use Rattle.std.proofs.Common.{subst, IfOk}
use Rattle.qw_scalar.specs.Closed.{closed}
use Rattle.qw_scalar.specs.Evaluation.{at_row, value_of}
use Rattle.qw_scalar.specs.Typing.{IsValueOf}
use Rattle.qw_scalar.specs.Columns.{HoldsIn}
use Rattle.qw_scalar.proofs.Closing.{closed_columns, closed_kind, closed_scale, closed_typed, closed_typed_in}
use Rattle.qw_scalar.proofs.TypingLemmas.{typed_value}
use Rattle.qw_scalar.proofs.closed_laws.closing_keeps_types.Goals as goal

pub returns-clause-kind : goal.returns-clause-kind
returns-clause-kind c = closed_kind

pub returns-clause-scale : goal.returns-clause-scale
returns-clause-scale c = closed_scale

pub returns-clause-typed : goal.returns-clause-typed
returns-clause-typed c = closed_typed

pub returns-clause-conditions : goal.returns-clause-conditions
returns-clause-conditions c = closed_typed_in

pub returns-clause-values : goal.returns-clause-values
returns-clause-values c g e row t f h =
    subst (λ k. IfOk (value_of (closed g e) (at_row row)) (λ v. IsValueOf k v)) (closed_kind g e) (typed_value (closed g e) row (closed_typed g e t f) (closed_columns g (HoldsIn row) e h))
