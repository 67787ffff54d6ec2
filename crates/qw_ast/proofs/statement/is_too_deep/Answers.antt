use Rattle.qw_ast.proofs.NestingLemmas.{exceeds_ends, exceeds_goes_on, exceeds_done}
use Rattle.qw_ast.proofs.statement.is_too_deep.Goals as goal

pub returns-then-depth-gt-MAX_DEPTH : goal.returns-then-depth-gt-MAX_DEPTH
returns-then-depth-gt-MAX_DEPTH c =
    exceeds_ends c.args.tokens.now c.loop-token.token-index c.loop-token.depth c.depth_behind-depth.result _ c.loop-token-test.true c.depth_behind-depth.ensures c.if-depth-gt-MAX_DEPTH.true c.loop-token.invariant.1

pub loop-token-preserved : goal.loop-token-preserved
loop-token-preserved c = (
  c.if-depth-gt-MAX_DEPTH.false,
  exceeds_goes_on c.args.tokens.now c.loop-token.token-index c.loop-token.depth c.depth_behind-depth.result _ c.loop-token-test.true c.depth_behind-depth.ensures c.if-depth-gt-MAX_DEPTH.false c.loop-token.invariant.1,
)

pub returns : goal.returns
returns c = exceeds_done c.args.tokens.now c.loop-token.token-index c.loop-token.depth c.loop-token-test.false c.loop-token.invariant.1
