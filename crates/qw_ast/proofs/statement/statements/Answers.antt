use Rattle.qw_ast.proofs.StatementLemmas.{statements_none, statements_first, statements_smaller, statements_goes_on, statements_end}
use Rattle.qw_ast.proofs.statement.statements.Goals as goal

pub returns-then-is_empty : goal.returns-then-is_empty
returns-then-is_empty c = rw c.new.ensures.items (statements_none c.args.tokens.now c.if-is_empty.ensures)

pub loop-rest-init : goal.loop-rest-init
loop-rest-init c = rw c.in_ok-found.ensures.items (statements_first c.args.tokens.now c.cut.result.0.now c.cut.result.1.now c.if-is_empty.ensures c.cut.ensures)

pub loop-rest-smaller : goal.loop-rest-smaller
loop-rest-smaller c = statements_smaller c.loop-rest.rest.now c.cut-in-loop-rest.result.0.now c.cut-in-loop-rest.result.1.now c.loop-rest-test.ensures c.cut-in-loop-rest.ensures

pub loop-rest-preserved : goal.loop-rest-preserved
loop-rest-preserved c =
    rw c.in_ok-push.ensures.items
    (statements_goes_on c.loop-rest.found.items c.cut-in-loop-rest.result.0 c.loop-rest.rest.now c.cut-in-loop-rest.result.1.now _ c.loop-rest-test.ensures c.cut-in-loop-rest.ensures c.loop-rest.invariant)

pub returns : goal.returns
returns c = statements_end c.loop-rest.found.items c.loop-rest.rest.now _ c.loop-rest-test.ensures c.loop-rest.invariant
