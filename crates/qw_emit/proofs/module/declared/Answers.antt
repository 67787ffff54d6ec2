use Rattle.qw_emit.proofs.Locals.{declared_types-next}
use Rattle.qw_emit.proofs.module.declared.Goals as goal

pub loop-ty-preserved : goal.loop-ty-preserved
loop-ty-preserved c = record {
  types = declared_types-next c.loop-ty.locals.items c.add_local.new.locals.items c.args.types.now c.loop-ty.ty-index _ c.loop-ty-test.true c.loop-ty.invariant.types c.in_ok-add_local.ensures.types;
  some = c.in_ok-add_local.ensures.some;
}
