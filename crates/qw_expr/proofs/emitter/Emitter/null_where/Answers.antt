use Rattle.qw_scalar.specs.Expression.{null}
use Rattle.qw_low.proofs.Appended.{if_ok}
use Rattle.qw_expr.proofs.ChoicesEmitted.{first_far}
use Rattle.qw_expr.proofs.emitter.Emitter.null_where.Goals as goal

pub returns-clause-emits : goal.returns-clause-emits
returns-clause-emits c = if_ok _ _ c.end_choice.result
    (λ out ends known condition e start typed suits low ec here.
    let begun = c.in_ok-begin_other.ensures.first known condition null c.args.text start c.args.self.now c.begin_choice.new.self c.args.test ec c.in_ok-place.ensures.emits (c.in_ok-first.ensures.emits known) in
    let far = first_far known condition null c.args.text start c.begin_other.new.self c.in_ok-place.place c.in_ok-first.first begun in
    ends known condition null e c.args.text start c.begin_other.new.self typed suits low begun (here c.begin_other.new.self far)) c.end_choice.ensures.emits
