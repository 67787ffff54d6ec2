use Rattle.qw_operator.proofs.GuardEmits.{bind_step}
use Rattle.qw_operator.proofs.guard.+bind.Goals as goal

pub returns : goal.returns
returns n c =
    bind_step c.args.columns.now.items c.push.new.self.items c.bind.new.columns.items c.in-Some-split_first.binding.now c.in-Some.reader.now c.in-Some-split_first.bindings.now c.in-Some.readers.now c.args.sure.now c.args.known.now
    c.in-Some.ensures.cases.0 c.in-Some-split_first.ensures.cases.0 c.requires c.in_ok-push.ensures.items c.in_ok-bind.ensures
