use Rattle.std.proofs.Common.{ap, ◌∙◌, map}
use Rattle.std.proofs.lemmas.List.{take_all}
use Rattle.qw_operator.specs.Guarded.{sure_where}
use Rattle.qw_operator.specs.Inner.Strict as strict
use Rattle.qw_operator.proofs.GuardEmits.{sure_step}
use Rattle.qw_operator.proofs.guard.all_behind.Goals as goal

pub loop-reader-preserved : goal.loop-reader-preserved
loop-reader-preserved c =
    sure_step (strict.is_tested c.args.cond.now c.args.left c.args.end) c.args.readers.now c.loop-reader.reader-index _ c.behind_test.result c.loop-reader.sure.items c.push.new.self.items c.loop-reader-test.true c.behind_test.ensures
    c.loop-reader.invariant c.in_ok-push.ensures.items

pub returns : goal.returns
returns c = c.loop-reader.invariant ∙ ap (map (sure_where (strict.is_tested c.args.cond.now c.args.left c.args.end))) (take_all c.loop-reader.reader-index c.args.readers.now c.loop-reader-test.false)
