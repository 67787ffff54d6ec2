use Rattle.std.proofs.Common.{List, [], ◌∷◌, ◌++◌, ◌+◌, ap, ◌∙◌}
use Rattle.qw_module.specs.declared.instruction.ValType.TheVariants.{I32}
use Rattle.qw_module.specs.declared.instruction.Const.TheVariants as const
use Rattle.qw_module.specs.declared.instruction.Binary.TheVariants.{Sub}
use Rattle.qw_module.specs.declared.instruction.Op.TheVariants as o
use Rattle.qw_low.specs.declared.step.LowStep.{LowStep}
use Rattle.qw_low.specs.declared.step.LowStep.TheVariants as step
use Rattle.qw_low.specs.Syntax.{skip}
use Rattle.qw_low.specs.Steps.{steps_of}
use Rattle.qw_low.proofs.Appended.{three}
use Rattle.qw_feed.specs.Room.{i32}
use Rattle.qw_table.specs.Tables.{probe_block}
use Rattle.qw_group.specs.Walks.{always}
use Rattle.qw_group.proofs.WalkClauses.{walks}
use Rattle.qw_group.proofs.walk.emit_group_walk.Goals as goal

pub returns-clause-block : goal.returns-clause-block
returns-clause-block c = λ b found_is.
    let n = c.args.count in
    let begun = step.Op (o.Const (const.I32 4096)) ∷ step.Op (o.LocalSet n) ∷ step.Op (o.LocalGet n) ∷ step.If ∷ step.Loop ∷ step.Op (o.LocalGet n) ∷ step.Op (o.Const (const.I32 4)) ∷ step.Op (o.Binary I32 Sub) ∷ step.Op (o.LocalSet n) ∷ [] in
    three c.args.block.now.code.items c.extend_from_slice.new.self.items c.emit_walk.new.block.code.items c.extend_from_slice-2.new.self.items begun (steps_of (probe_block c.args.directory n (n + 1) always b)) (step.Op (o.LocalGet n) ∷ step.Again ∷ step.End ∷ step.End ∷ [])
    c.in_ok-extend_from_slice.ensures.items
    (c.in_ok-emit_walk.ensures (i32 1) skip b c.new-every.ensures (c.in_ok-push.ensures ∙ ap (λ (l : List LowStep). l ++ step.Op (o.Const (const.I32 1)) ∷ []) c.new-always.ensures) found_is)
    c.in_ok-extend_from_slice-2.ensures.items

pub returns-clause-walks : goal.returns-clause-walks
returns-clause-walks c = λ b key aggregates low. walks c.args.directory key aggregates c.args.count b low
