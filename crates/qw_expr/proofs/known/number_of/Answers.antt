use Rattle.std.proofs.Common.{ℤ, ap, of_z, refl, sym, to_z, ◌∙◌, w64}
use Rattle.std.proofs.lemmas.Int.{to_z-of_z}
use Rattle.qw_scalar.specs.Expression.{number}
use Rattle.qw_expr.specs.Bindings.{known_of, named}
use Rattle.qw_expr.proofs.Lookups.{first_among, knows_others, others_among, number_leaf}
use Rattle.qw_expr.proofs.known.number_of.Goals as goal

pub returns-then-is_number : goal.returns-then-is_number
returns-then-is_number c =
    let same = to_z-of_z w64 c.args.value c.ranges.value in
    first_among c.loop-first.rest.now c.in-Some.others.now c.in-Some.first.now (known_of c.args.bindings.now) (number c.args.value c.args.scale) (c.in-Some.ensures.cases.0)
    (sym (ap named (c.if-is_number.ensures.yes refl) ∙ ap (λ z. number z c.args.scale) same)) (c.loop-first.invariant.1)

-- in the loop the value is that of the argument's word
pub loop-first-preserved : goal.loop-first-preserved
loop-first-preserved c =
    let z : ℤ = to_z w64 (of_z w64 c.args.value) in (
      knows_others c.loop-first.rest.now c.in-Some.others.now c.in-Some.first.now (number z c.args.scale) (c.in-Some.ensures.cases.0) (λ same. c.if-is_number.ensures.no refl (number_leaf c.in-Some.first.now.leaf z c.args.scale same)) (c.loop-first.invariant.0),
      others_among c.loop-first.rest.now c.in-Some.others.now c.in-Some.first.now (known_of c.args.bindings.now) (c.in-Some.ensures.cases.0) (c.loop-first.invariant.1),
    )
