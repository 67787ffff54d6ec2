use Rattle.qw_token.proofs.TokenGap.{gap-ends, gap-goes_on, gap-shorter}
use Rattle.qw_token.proofs.token.lexer.after_gap.Goals as goal

pub loop-after-smaller : goal.loop-after-smaller
loop-after-smaller c = gap-shorter c.loop-after.rest.now c.in-Some.after.now c.in-Some.ensures

pub loop-after-preserved : goal.loop-after-preserved
loop-after-preserved c = λ behind gap. c.loop-after.invariant behind (gap-goes_on c.loop-after.rest.now c.in-Some.after.now behind c.in-Some.ensures gap)

pub returns : goal.returns
returns c = c.loop-after.invariant c.loop-after.rest.now (gap-ends c.loop-after.rest.now c.in_default.ensures)
