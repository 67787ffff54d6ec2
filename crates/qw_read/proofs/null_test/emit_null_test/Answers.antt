use Rattle.std.proofs.Common.{◌++◌, ap, ◌∙◌, append_assoc}
use Rattle.qw_low.specs.Steps.{expression_steps, steps_of}
use Rattle.qw_read.specs.Inner.NullBlocks.{test_block, test_out}
use Rattle.qw_read.proofs.NullTestRuns.{tests_nulls}
use Rattle.qw_read.proofs.null_test.emit_null_test.Goals as goal

pub returns : goal.returns
returns c =
    let block = test_block c.args.first c.args.rest.now c.args.free in
    let out = test_out c.args.rest.now c.args.free in (
      block,
      out,
      c.in_ok-push_out.ensures ∙ (ap (λ (code : _). code ++ expression_steps out) c.in_ok-push_test.ensures ∙ append_assoc c.args.block.now.code.items (steps_of block) (expression_steps out)),
      tests_nulls c.args.first c.args.rest.now c.args.free c.requires.first c.requires.rest,
    )
