use Rattle.std.proofs.Common.{◌+◌, [], ◌∷◌}
use Rattle.qw_module.specs.declared.instruction.ValType.TheVariants.{I32}
use Rattle.qw_module.specs.declared.instruction.Const.TheVariants as const
use Rattle.qw_module.specs.declared.instruction.Relation.TheVariants.{Eq}
use Rattle.qw_module.specs.declared.instruction.Op.TheVariants as o
use Rattle.qw_low.specs.declared.step.LowStep.TheVariants as step
use Rattle.qw_low.specs.Steps.{expression_steps, steps_of}
use Rattle.qw_low.proofs.Appended.{three}
use Rattle.qw_text.specs.Inner.LikeBlocks.{first_bits, load_small}
use Rattle.qw_text.proofs.like.push_look.Goals as goal

pub returns : goal.returns
returns c =
    three c.args.block.now.code.items c.push_octet.new.block.code.items c.push_first_bits.new.block.code.items c.extend_from_slice.new.self.items
    (steps_of (load_small (c.args.free + 6) c.args.address (c.args.free + 1))) (expression_steps (first_bits (c.args.free + 6)))
    (step.Op (o.Const (const.I32 2)) ∷ step.Op (o.Relation I32 Eq) ∷ step.Op (o.LocalSet (c.args.free + 7)) ∷ [])
    c.in_ok-push_octet.ensures c.in_ok-push_first_bits.ensures c.in_ok-extend_from_slice.ensures.items
