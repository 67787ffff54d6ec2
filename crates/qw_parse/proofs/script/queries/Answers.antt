use Rattle.std.proofs.Common.{inl, inr}
use Rattle.std.proofs.lemmas.Result.{err_from_is_err_and}
use Rattle.qw_parse.proofs.AcceptLemmas.{accepts_none, accepts_more, accepts_fault, accepts_all}
use Rattle.qw_parse.proofs.script.queries.Goals as goal

pub loop-index-init : goal.loop-index-init
loop-index-init c = rw c.new-queries.ensures.items (accepts_none c.args.statements.now)

pub loop-index-preserved : goal.loop-index-preserved
loop-index-preserved c =
    rw c.in_ok-push.ensures (accepts_more c.args.statements.now c.loop-index.queries.items c.loop-index.index _ c.in_ok-query.query c.loop-index-test.true c.in_ok-query.ensures.accepted c.loop-index.invariant)

pub returns-in_err-query-clause-refused : goal.returns-in_err-query-clause-refused
returns-in_err-query-clause-refused c =
    let p = err_from_is_err_and c.from_residual.result c.from_residual.ensures.1 in
    rw (p.1, p.2)
    (elim c.in_err-query.ensures.refused [
      | inl memory ↦ inl memory
      | inr wrong ↦ inr (accepts_fault c.args.statements.now c.loop-index.queries.items c.loop-index.index _ c.in_err-query.field-0.0 c.loop-index-test.true wrong c.loop-index.invariant)
    ])

pub returns-clause-accepted : goal.returns-clause-accepted
returns-clause-accepted c = accepts_all c.args.statements.now c.loop-index.queries.items c.loop-index.index c.loop-index-test.false c.loop-index.invariant
