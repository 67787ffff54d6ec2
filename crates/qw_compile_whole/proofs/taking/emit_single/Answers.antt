use Rattle.std.proofs.Common.{List, [], map, subst}
use Rattle.qw_low.specs.declared.step.LowStep.{LowStep}
use Rattle.qw_module.specs.declared.instruction.ValType.{ValType}
use Rattle.qw_physical.specs.Coded.{operator_of, pipeline_of}
use Rattle.qw_operator.specs.Grouping.{group_of}
use Rattle.qw_compile.specs.Placed.{EmitsBuilds}
use Rattle.qw_compile_whole.proofs.TakingLengths.{single_short}
use Rattle.qw_compile_whole.proofs.TakingPlaced.{single_emitted}
use Rattle.qw_compile_whole.proofs.taking.emit_single.Goals as goal

pub returns-clause-emits : goal.returns-clause-emits
returns-clause-emits c =
    let building = map pipeline_of c.args.pipelines.now in
    single_emitted c.args.guard c.args.places.now c.args.first building c.args.entry (map operator_of c.args.operators.now) (group_of c.args.group.now) c.args.values.now (pipeline_of c.args.pipeline.now)
    c.emit_builds.new.block.code.items c.emit_taking.new.block.code.items c.begin_rows.new.block.code.items c.emit_one.new.block.code.items c.finish.new.block.code.items
    c.emit_builds.new.own.items c.emit_taking.new.own.items c.emit_one.new.own.items c.in_ok-kinds.kinds.items
    (subst (λ (own : List ValType). EmitsBuilds c.args.places.now c.args.first building [] c.emit_builds.new.block.code.items own c.emit_builds.new.own.items) c.new-own.ensures.items
    (subst (λ (code : List LowStep). EmitsBuilds c.args.places.now c.args.first building code c.emit_builds.new.block.code.items c.new-own.result.items c.emit_builds.new.own.items) c.new-block.ensures c.in_ok-emit_builds.ensures.emits))
    c.in_ok-emit_taking.ensures.emits c.in_ok-begin_rows.ensures c.in_ok-kinds.ensures.emits c.in_ok-finish.ensures c.in_ok-kinds.ensures.kinds

pub returns-clause-short : goal.returns-clause-short
returns-clause-short c =
    single_short _ _ _ c.new-block.result.code.items c.emit_builds.new.block.code.items c.emit_taking.new.block.code.items c.begin_rows.new.block.code.items c.emit_one.new.block.code.items c.finish.new.block.code.items
    c.new-own.result.items c.emit_builds.new.own.items c.emit_taking.new.own.items c.emit_one.new.own.items c.new-block.ensures c.new-own.ensures.items c.in_ok-emit_builds.ensures.short
    c.in_ok-emit_taking.ensures.short c.in_ok-begin_rows.ensures c.in_ok-kinds.ensures.short c.in_ok-finish.ensures
