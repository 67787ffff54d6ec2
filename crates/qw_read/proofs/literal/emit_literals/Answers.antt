use Rattle.std.proofs.Common.{◌++◌}
use Rattle.qw_low.specs.Steps.{steps_of}
use Rattle.qw_read.specs.Inner.TextBlocks.{literal_block, literals_block}
use Rattle.qw_read.proofs.LiteralRuns.{IsNarrow, literals_lead}
use Rattle.qw_read.proofs.Several.{all_steps, one_more, all_of_taken}
use Rattle.qw_read.proofs.literal.emit_literals.Goals as goal

pub loop-literal-preserved : goal.loop-literal-preserved
loop-literal-preserved c =
    one_more literal_block IsNarrow c.args.literals.now c.loop-literal.literal-index _ (c.args.block.now.code.items ++ steps_of (literals_block c.args.literals.now)) c.loop-literal.block.code.items
    c.push_literal.new.block.code.items c.loop-literal-test.true c.in_ok-push_literal.ensures.code c.loop-literal.invariant c.in_ok-push_literal.ensures.narrow

pub returns : goal.returns
returns c = (
  literals_block c.args.literals.now,
  all_steps literal_block c.args.literals.now c.loop-literal.literal-index (c.args.block.now.code.items ++ steps_of (literals_block c.args.literals.now)) c.loop-literal.block.code.items
      c.loop-literal-test.false c.loop-literal.invariant.0,
  literals_lead c.args.literals.now (all_of_taken literal_block IsNarrow c.args.literals.now c.loop-literal.literal-index c.loop-literal-test.false c.loop-literal.invariant.1),
)
