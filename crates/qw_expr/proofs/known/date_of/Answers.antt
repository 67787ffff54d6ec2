use Rattle.std.proofs.Common.{ℤ, ap, of_z, refl, sym, to_z, ◌∙◌, w32}
use Rattle.std.proofs.lemmas.Int.{to_z-of_z}
use Rattle.qw_scalar.specs.Expression.{date}
use Rattle.qw_expr.specs.Bindings.{known_of, named}
use Rattle.qw_expr.proofs.Lookups.{first_among, knows_others, others_among, date_leaf}
use Rattle.qw_expr.proofs.known.date_of.Goals as goal

pub returns-then-is_date : goal.returns-then-is_date
returns-then-is_date c =
    let same = to_z-of_z w32 c.args.day c.ranges.day in
    first_among c.loop-first.rest.now c.in-Some.others.now c.in-Some.first.now (known_of c.args.bindings.now) (date c.args.day) (c.in-Some.ensures.cases.0)
    (sym (ap named (c.if-is_date.ensures.yes refl) ∙ ap (λ z. date z) same)) (c.loop-first.invariant.1)

-- in the loop the value is that of the argument's word
pub loop-first-preserved : goal.loop-first-preserved
loop-first-preserved c =
    let z : ℤ = to_z w32 (of_z w32 c.args.day) in (
      knows_others c.loop-first.rest.now c.in-Some.others.now c.in-Some.first.now (date z) (c.in-Some.ensures.cases.0) (λ same. c.if-is_date.ensures.no refl (date_leaf c.in-Some.first.now.leaf z same)) (c.loop-first.invariant.0),
      others_among c.loop-first.rest.now c.in-Some.others.now c.in-Some.first.now (known_of c.args.bindings.now) (c.in-Some.ensures.cases.0) (c.loop-first.invariant.1),
    )
