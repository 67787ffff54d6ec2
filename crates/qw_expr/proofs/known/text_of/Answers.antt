use Rattle.std.proofs.Common.{ap, refl, sym}
use Rattle.qw_scalar.specs.Expression.{text}
use Rattle.qw_expr.specs.Bindings.{known_of, named}
use Rattle.qw_expr.proofs.Lookups.{first_among, knows_others, others_among, text_leaf}
use Rattle.qw_expr.proofs.known.text_of.Goals as goal

pub returns-then-is_text : goal.returns-then-is_text
returns-then-is_text c = first_among c.loop-first.rest.now c.in-Some.others.now c.in-Some.first.now (known_of c.args.bindings.now) (text c.args.literal.now) (c.in-Some.ensures.cases.0)
    (sym (ap named (c.if-is_text.ensures.yes refl))) (c.loop-first.invariant.1)

pub loop-first-preserved : goal.loop-first-preserved
loop-first-preserved c = (
  knows_others c.loop-first.rest.now c.in-Some.others.now c.in-Some.first.now (text c.args.literal.now) (c.in-Some.ensures.cases.0)
      (λ same. c.if-is_text.ensures.no refl (text_leaf c.in-Some.first.now.leaf c.args.literal.now same)) (c.loop-first.invariant.0),
  others_among c.loop-first.rest.now c.in-Some.others.now c.in-Some.first.now (known_of c.args.bindings.now) (c.in-Some.ensures.cases.0) (c.loop-first.invariant.1),
)
