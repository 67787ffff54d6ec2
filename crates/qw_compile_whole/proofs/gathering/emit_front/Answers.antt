use Rattle.std.proofs.Common.{◌++◌, ℕ, List, [], map, ap, ◌∙◌, subst}
use Rattle.qw_low.specs.declared.step.LowStep.{LowStep}
use Rattle.qw_low.specs.Steps.{steps_of}
use Rattle.qw_module.specs.declared.instruction.ValType.{ValType}
use Rattle.qw_table.specs.Tables.{directory_block}
use Rattle.qw_physical.specs.Coded.{operator_of, pipeline_of}
use Rattle.qw_operator.specs.Grouping.{group_of}
use Rattle.qw_compile.specs.Placed.{EmitsBuilds}
use Rattle.qw_compile_whole.proofs.GatheringLengths.{front_short}
use Rattle.qw_compile_whole.proofs.GatheringPlaced.{front_emitted}
use Rattle.qw_compile_whole.proofs.gathering.emit_front.Goals as goal

pub returns-clause-emits : goal.returns-clause-emits
returns-clause-emits c =
    let building = map pipeline_of c.args.pipelines.now in
    front_emitted c.args.guard c.args.places.now c.args.first building c.args.entry (map operator_of c.args.operators.now) (group_of c.args.group.now)
    c.emit_builds.new.block.code.items c.push_count_from.new.block.code.items c.emit_directory.new.block.code.items c.emit_gathering.new.block.code.items c.push_stop_at.new.block.code.items c.emit_builds.new.own.items c.emit_gathering.new.own.items
    (subst (λ (own : List ValType). EmitsBuilds c.args.places.now c.args.first building [] c.emit_builds.new.block.code.items own c.emit_builds.new.own.items) c.new-own.ensures.items
    (subst (λ (code : List LowStep). EmitsBuilds c.args.places.now c.args.first building code c.emit_builds.new.block.code.items c.new-own.result.items c.emit_builds.new.own.items) c.new-block.ensures c.in_ok-emit_builds.ensures.emits))
    c.in_ok-push_count_from.ensures (c.in_ok-emit_directory.ensures ∙ ap (λ (x : ℕ). c.push_count_from.new.block.code.items ++ steps_of (directory_block x)) c.directory.ensures)
    c.in_ok-emit_gathering.ensures.emits c.in_ok-push_stop_at.ensures

pub returns-clause-short : goal.returns-clause-short
returns-clause-short c =
    front_short c.args.guard _ _ c.args.group.now.table c.new-block.result.code.items c.emit_builds.new.block.code.items c.push_count_from.new.block.code.items c.emit_directory.new.block.code.items c.emit_gathering.new.block.code.items c.push_stop_at.new.block.code.items
    c.new-own.result.items c.emit_builds.new.own.items c.emit_gathering.new.own.items c.new-block.ensures c.new-own.ensures.items c.in_ok-emit_builds.ensures.short
    c.in_ok-push_count_from.ensures (c.in_ok-emit_directory.ensures ∙ ap (λ (x : ℕ). c.push_count_from.new.block.code.items ++ steps_of (directory_block x)) c.directory.ensures)
    c.in_ok-emit_gathering.ensures.short c.in_ok-push_stop_at.ensures
