use Rattle.qw_module.specs.declared.instruction.ValType.TheVariants.{I32}
use Rattle.qw_module.specs.declared.instruction.Load.TheVariants.{Full}
use Rattle.qw_low.specs.Steps.{steps_of}
use Rattle.qw_low.specs.Syntax.{load}
use Rattle.qw_low.proofs.Appended.{three}
use Rattle.qw_read.specs.Inner.Blocks.{word_at}
use Rattle.qw_read.proofs.read.push_text.Goals as goal

pub returns : goal.returns
returns c =
    let r = c.args.reader in
    three c.args.block.now.code.items c.push_offset.new.block.code.items c.push_offset-2.new.block.code.items c.extend_from_slice.new.self.items (steps_of (load r.cell.value (Full I32) 0 (word_at r)))
    (steps_of (load r.cell.length (Full I32) 4 (word_at r))) _ c.in_ok-push_offset.ensures c.in_ok-push_offset-2.ensures c.in_ok-extend_from_slice.ensures.items
