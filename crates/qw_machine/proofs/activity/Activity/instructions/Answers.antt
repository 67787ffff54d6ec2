use Rattle.std.proofs.Common.{sym, ◌∙◌}
use Rattle.qw_machine.proofs.Reading.{sequence-read}
use Rattle.qw_machine.proofs.activity.Activity.instructions.Goals as goal

pub returns : goal.returns
returns c =
    c.as_slice.ensures.value ∙ sym (sequence-read c.args.program.now c.args.self.now.function c.args.self.now.sequence c.index.result.now c.index-2.result.now
    c.requires.function c.requires.sequence c.index.ensures c.index-2.ensures)
