use Rattle.std.proofs.Common.{List, ◌++◌, ap, ◌∙◌, arith}
use Rattle.std.proofs.lemmas.Result.{on_ok_weaker}
use Rattle.qw_low.specs.declared.step.LowStep.{LowStep}
use Rattle.qw_low.specs.Steps.{steps_of}
use Rattle.qw_feed.specs.Cells.{cells_block}
use Rattle.qw_table.specs.Joins.{sources_of}
use Rattle.qw_group.proofs.GroupStepsAdded.{group_added}
use Rattle.qw_group.proofs.GroupClauses.{groups_collect}
use Rattle.qw_group.proofs.group.emit_group.Goals as goal

pub returns : goal.returns
returns c =
    let find = c.in_ok-slot.ensures.block in
    let test = c.in_ok-out.ensures.block in
    let fill = cells_block 24 (sources_of c.args.key.now) in
    on_ok_weaker c.push_areas.result (λ update.
    let whole = group_added c.args.directory c.args.free c.in_ok-slot.slot c.in_ok-out.out _ _ c.args.key.now c.args.aggregates.now find.0 test.0 update.0 c.args.block.now.code.items c.emit_key_slot.new.block.code.items c.push_find_start.new.block.code.items
    c.emit_key_test.new.block.code.items c.push_find_end.new.block.code.items c.push_place_start.new.block.code.items c.emit_insert.new.block.code.items c.push_place_end.new.block.code.items c.push_areas.new.block.code.items
    c.in_ok-slot.ensures.place c.in_ok-out.ensures.place (omega arith) (omega arith) find.2 test.2 update.2 find.1 c.in_ok-push_find_start.ensures test.1 c.in_ok-push_find_end.ensures c.in_ok-push_place_start.ensures
    (c.in_ok-emit_insert.ensures fill (c.in_ok-push_cells.ensures ∙ ap (λ (l : List LowStep). l ++ steps_of fill) c.new-fill.ensures)) c.in_ok-push_place_end.ensures update.1 in
    (whole.0, whole.1, whole.2, λ low uses argument_uses. groups_collect c.args.directory c.args.key.now c.args.aggregates.now c.args.free whole.0 whole.2 c.requires.few low uses argument_uses)) c.push_areas.ensures
