use Rattle.std.proofs.Common.{ap, refl, sym}
use Rattle.qw_scalar.specs.Expression.{column}
use Rattle.qw_expr.specs.Bindings.{known_of, named}
use Rattle.qw_expr.proofs.Lookups.{first_among, knows_others, others_among, column_leaf}
use Rattle.qw_expr.proofs.known.column_of.Goals as goal

pub returns-then-is_column : goal.returns-then-is_column
returns-then-is_column c = first_among c.loop-first.rest.now c.in-Some.others.now c.in-Some.first.now (known_of c.args.bindings.now) (column c.args.index c.args.ty) (c.in-Some.ensures.cases.0)
    (sym (ap named (c.if-is_column.ensures.yes refl))) (c.loop-first.invariant.1)

pub loop-first-preserved : goal.loop-first-preserved
loop-first-preserved c = (
  knows_others c.loop-first.rest.now c.in-Some.others.now c.in-Some.first.now (column c.args.index c.args.ty) (c.in-Some.ensures.cases.0)
      (λ same. c.if-is_column.ensures.no refl (column_leaf c.in-Some.first.now.leaf c.args.index c.args.ty same)) (c.loop-first.invariant.0),
  others_among c.loop-first.rest.now c.in-Some.others.now c.in-Some.first.now (known_of c.args.bindings.now) (c.in-Some.ensures.cases.0) (c.loop-first.invariant.1),
)
