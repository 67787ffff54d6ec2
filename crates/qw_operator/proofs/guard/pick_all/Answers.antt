use Rattle.std.proofs.Common.{ap, ◌∙◌}
use Rattle.std.proofs.lemmas.List.{take_all}
use Rattle.qw_operator.specs.Guarded.{picked}
use Rattle.qw_operator.specs.Inner.Strict as strict
use Rattle.qw_operator.proofs.GuardEmits.{pick_step}
use Rattle.qw_operator.proofs.guard.pick_all.Goals as goal

pub loop-reader-preserved : goal.loop-reader-preserved
loop-reader-preserved c =
    pick_step (strict.is_tested c.args.cond.now c.args.left c.args.end) c.args.readers.now c.loop-reader.reader-index _ c.loop-reader.tested.items c.pick.new.tested.items c.loop-reader-test.true c.loop-reader.invariant c.in_ok-pick.ensures

pub returns : goal.returns
returns c = c.loop-reader.invariant ∙ ap (picked (strict.is_tested c.args.cond.now c.args.left c.args.end)) (take_all c.loop-reader.reader-index c.args.readers.now c.loop-reader-test.false)
