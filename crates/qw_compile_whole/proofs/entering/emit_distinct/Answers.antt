use Rattle.std.proofs.Common.{◌++◌, ℕ, map, ap, ◌∙◌}
use Rattle.qw_low.specs.Steps.{steps_of}
use Rattle.qw_table.specs.Tables.{directory_block}
use Rattle.qw_physical.specs.Coded.{operator_of, pipeline_of}
use Rattle.qw_operator.specs.Grouping.{group_of}
use Rattle.qw_compile_whole.proofs.EnterPlaced.{distinct_emitted, distinct_short}
use Rattle.qw_compile_whole.proofs.entering.emit_distinct.Goals as goal

pub returns-clause-emits : goal.returns-clause-emits
returns-clause-emits c =
    let begun = c.in_ok-block.field-0 in
    distinct_emitted c.args.guard c.args.places.now c.args.first (map pipeline_of c.args.pipelines.now) c.args.entry (map operator_of c.args.operators.now) (group_of c.args.group.now) c.args.columns.now.key.items c.args.columns.now.values.items
    (map operator_of c.args.having.now) (group_of c.args.into.now) c.args.again.now.columns.key.items c.args.again.now.columns.values.items (pipeline_of c.args.again.now.pipeline)
    begun.block.code.items c.emit_directory.new.block.code.items c.emit_enter.new.block.code.items c.begin_rows.new.block.code.items c.emit_walk.new.block.code.items c.finish.new.block.code.items begun.own.items c.emit_enter.new.own.items c.emit_walk.new.own.items c.in_ok-kinds.kinds.items
    c.in_ok-block.ensures.emits (c.in_ok-emit_directory.ensures ∙ ap (λ (x : ℕ). begun.block.code.items ++ steps_of (directory_block x)) c.directory.ensures)
    c.in_ok-emit_enter.ensures.emits c.in_ok-begin_rows.ensures c.in_ok-kinds.ensures.emits c.in_ok-finish.ensures c.in_ok-kinds.ensures.kinds

pub returns-clause-short : goal.returns-clause-short
returns-clause-short c =
    let begun = c.in_ok-block.field-0 in
    distinct_short _ _ _ c.args.into.now.table begun.block.code.items c.emit_directory.new.block.code.items c.emit_enter.new.block.code.items c.begin_rows.new.block.code.items c.emit_walk.new.block.code.items c.finish.new.block.code.items begun.own.items c.emit_enter.new.own.items c.emit_walk.new.own.items
    c.in_ok-block.ensures.short (c.in_ok-emit_directory.ensures ∙ ap (λ (x : ℕ). begun.block.code.items ++ steps_of (directory_block x)) c.directory.ensures)
    c.in_ok-emit_enter.ensures.short c.in_ok-begin_rows.ensures c.in_ok-kinds.ensures.short c.in_ok-finish.ensures
