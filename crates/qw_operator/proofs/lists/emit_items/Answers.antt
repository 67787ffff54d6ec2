use Rattle.qw_expr.specs.Bindings.{known_of}
use Rattle.qw_expr.specs.Emits.{extent}
use Rattle.qw_operator.proofs.Listed.{next_item}
use Rattle.qw_operator.proofs.Shortness.{next_item_short}
use Rattle.qw_operator.proofs.lists.emit_items.Goals as goal

pub loop-item-preserved : goal.loop-item-preserved
loop-item-preserved c = (
  next_item (known_of c.args.known.now) c.args.items.now c.loop-item.item-index c.item-item.result c.args.emitter.now c.loop-item.emitter c.emit_expr.new.emitter c.loop-item.outs.items c.push.new.self.items c.in_ok-out.out
      c.loop-item-test.true c.item-item.is c.loop-item.invariant.0 c.in_ok-out.ensures.emits c.in_ok-push.ensures.items,
  next_item_short c.args.items.now c.loop-item.item-index c.item-item.result (extent c.args.emitter.now) (extent c.loop-item.emitter) (extent c.emit_expr.new.emitter)
      c.loop-item-test.true c.item-item.is c.loop-item.invariant.1 c.in_ok-out.ensures.short,
)
