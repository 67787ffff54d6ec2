use Rattle.std.proofs.Common.{map}
use Rattle.qw_physical.specs.Coded.{operator_of, pipeline_of}
use Rattle.qw_operator.specs.Grouping.{group_of}
use Rattle.qw_compile_whole.proofs.GatheringLengths.{grouped_short}
use Rattle.qw_compile_whole.proofs.GatheringPlaced.{grouped_emitted}
use Rattle.qw_compile_whole.proofs.gathering.emit_grouped.Goals as goal

pub returns-clause-emits : goal.returns-clause-emits
returns-clause-emits c =
    let begun = c.in_ok-block.field-0 in
    grouped_emitted c.args.guard c.args.places.now c.args.first (map pipeline_of c.args.pipelines.now) c.args.entry (map operator_of c.args.operators.now) (group_of c.args.group.now) c.args.columns.now.key.items c.args.columns.now.values.items (pipeline_of c.args.pipeline.now)
    begun.block.code.items c.begin_rows.new.block.code.items c.emit_walk.new.block.code.items c.finish.new.block.code.items begun.own.items c.emit_walk.new.own.items c.in_ok-kinds.kinds.items
    c.in_ok-block.ensures.emits c.in_ok-begin_rows.ensures c.in_ok-kinds.ensures.emits c.in_ok-finish.ensures c.in_ok-kinds.ensures.kinds

pub returns-clause-short : goal.returns-clause-short
returns-clause-short c =
    let begun = c.in_ok-block.field-0 in
    grouped_short _ _ begun.block.code.items c.begin_rows.new.block.code.items c.emit_walk.new.block.code.items c.finish.new.block.code.items begun.own.items c.emit_walk.new.own.items c.in_ok-block.ensures.short c.in_ok-begin_rows.ensures c.in_ok-kinds.ensures.short c.in_ok-finish.ensures
