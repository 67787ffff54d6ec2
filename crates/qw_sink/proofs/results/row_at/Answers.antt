use Rattle.std.proofs.Common.{◌∙◌, Some, ap, sym}
use Rattle.qw_map.proofs.ResultRows.{cell-there, cells-more, cells-none}
use Rattle.qw_sink.proofs.results.row_at.Goals as goal

pub loop-index-init : goal.loop-index-init
loop-index-init c = λ texts there. rw c.in_ok-values.ensures.items (cells-none texts c.args.memory.now.octets c.args.kinds.now c.args.cells there)

pub cell_at-requires-clause-there : goal.cell_at-requires-clause-there
cell_at-requires-clause-there c =
    let there = c.requires.there in (
      there.0,
      rw c.from.ensures (cell-there there.0 c.args.memory.now.octets c.args.kinds.now c.args.cells c.loop-index.index c.loop-index.values.items _ c.loop-index-test.true
          (c.loop-index.invariant there.0 there.1)),
    )

pub loop-index-preserved : goal.loop-index-preserved
loop-index-preserved c = λ texts there.
    let memory = c.args.memory.now.octets in
    let so_far = c.loop-index.invariant texts there in
    let read = rw c.from.ensures at c.cell_at.ensures.value in
    rw c.in_ok-push.ensures.items
    (cells-more texts memory c.args.kinds.now c.args.cells c.loop-index.index c.loop-index.values.items c.in_ok-owned.field-0 _ c.loop-index-test.true
    (read texts (cell-there texts memory c.args.kinds.now c.args.cells c.loop-index.index c.loop-index.values.items _ c.loop-index-test.true so_far) ∙ ap Some (sym c.in_ok-owned.ensures))
    so_far)
